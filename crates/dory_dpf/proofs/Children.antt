-- The two parties' nodes: off the path they are one, and on the path their bits differ.
use Rattle.std.proofs.Common.{◌≡◌, ◌≢◌, ℕ, Bool, true, false, not, ◌&&◌, if◌then◌else◌, List, [], ◌∷◌, length, refl, sym, ap, arith}
use mathlib.Core.Path.{ap₂}
use Rattle.dory_base.specs.Xor.{xor}
use Rattle.dory_dpf.specs.declared.tree.Correction.{Correction}
use Rattle.dory_dpf.specs.declared.tree.Node.{Node}
use Rattle.dory_dpf.specs.Block.{doubled_of}
use Rattle.dory_dpf.specs.Sixteen.{xor_bytes}
use Rattle.dory_dpf.specs.Tree.{side_seed, side_bit, child_of, child_under, correction_of, correction_under, corrections_of, walk}
use Rattle.dory_dpf.proofs.XorLaws.{xor_bytes_cancel, xor_bytes_comm}

-- the two sides of a seed have sixteen bytes
pub length-side : (right : Bool) (s : List ℕ) → length (side_seed right (doubled_of s)) ≡ 16
unfolding doubled_of
length-side true s = refl
length-side false s = refl

-- the seed of the side that is left: where exactly one node is corrected, both get the same
lost_seeds : (b : Bool) (x y : List ℕ) → length x ≡ 16 → length y ≡ 16
    → (if b then xor_bytes x (xor_bytes x y) else x) ≡ (if not b then xor_bytes y (xor_bytes x y) else y)
lost_seeds true x y lx ly = xor_bytes_cancel x y (omega arith)
lost_seeds false x y lx ly = sym (rw (xor_bytes_comm x y) (xor_bytes_cancel y x (omega arith)))

lost_bits_left : (b t u : Bool) → xor t (b && xor (xor (xor t u) true) true) ≡ xor u (not b && xor (xor (xor t u) true) true)
lost_bits_left true true true = refl
lost_bits_left true true false = refl
lost_bits_left true false true = refl
lost_bits_left true false false = refl
lost_bits_left false true true = refl
lost_bits_left false true false = refl
lost_bits_left false false true = refl
lost_bits_left false false false = refl

lost_bits_right : (b t u : Bool) → xor t (b && xor (xor t u) false) ≡ xor u (not b && xor (xor t u) false)
lost_bits_right true true true = refl
lost_bits_right true true false = refl
lost_bits_right true false true = refl
lost_bits_right true false false = refl
lost_bits_right false true true = refl
lost_bits_right false true false = refl
lost_bits_right false false true = refl
lost_bits_right false false false = refl

kept_bits_left : (b t u : Bool) → xor u (not b && xor (xor (xor t u) false) true) ≡ not (xor t (b && xor (xor (xor t u) false) true))
kept_bits_left true true true = refl
kept_bits_left true true false = refl
kept_bits_left true false true = refl
kept_bits_left true false false = refl
kept_bits_left false true true = refl
kept_bits_left false true false = refl
kept_bits_left false false true = refl
kept_bits_left false false false = refl

kept_bits_right : (b t u : Bool) → xor u (not b && xor (xor t u) true) ≡ not (xor t (b && xor (xor t u) true))
kept_bits_right true true true = refl
kept_bits_right true true false = refl
kept_bits_right true false true = refl
kept_bits_right true false false = refl
kept_bits_right false true true = refl
kept_bits_right false true false = refl
kept_bits_right false false true = refl
kept_bits_right false false false = refl

same_node : (s t : List ℕ) (b d : Bool) → s ≡ t → b ≡ d → (let m : Node = record { seed = s; bit = b } in m) ≡ (let n : Node = record { seed = t; bit = d } in n)
same_node s t b d e f = ap₂ (λ (x : List ℕ) (y : Bool). let v : Node = record { seed = x; bit = y } in v) e f

-- off the path the two children are one node
pub lost_children : (keep : Bool) (m n : Node) → n.bit ≡ not m.bit
    → child_of (not keep) m (correction_of keep m n) ≡ child_of (not keep) n (correction_of keep m n)
unfolding child_under correction_under
lost_children true m n differ =
    rw differ (same_node _ _ _ _
    (lost_seeds m.bit (side_seed false (doubled_of m.seed)) (side_seed false (doubled_of n.seed)) (length-side false m.seed) (length-side false n.seed))
    (lost_bits_left m.bit (side_bit false (doubled_of m.seed)) (side_bit false (doubled_of n.seed))))
lost_children false m n differ =
    rw differ (same_node _ _ _ _
    (lost_seeds m.bit (side_seed true (doubled_of m.seed)) (side_seed true (doubled_of n.seed)) (length-side true m.seed) (length-side true n.seed))
    (lost_bits_right m.bit (side_bit true (doubled_of m.seed)) (side_bit true (doubled_of n.seed))))

-- on the path the two bits differ
pub kept_children : (keep : Bool) (m n : Node) → n.bit ≡ not m.bit
    → (child_of keep n (correction_of keep m n)).bit ≡ not (child_of keep m (correction_of keep m n)).bit
unfolding child_under correction_under
kept_children true m n differ = rw differ (kept_bits_right m.bit (side_bit true (doubled_of m.seed)) (side_bit true (doubled_of n.seed)))
kept_children false m n differ = rw differ (kept_bits_left m.bit (side_bit false (doubled_of m.seed)) (side_bit false (doubled_of n.seed)))

-- at the end of the path the two bits differ
pub ends_differ : (path : List Bool) (m n : Node) → n.bit ≡ not m.bit
    → (walk n (corrections_of path m n) path).bit ≡ not (walk m (corrections_of path m n) path).bit
unfolding corrections_of walk
ends_differ [] m n differ = differ
ends_differ (keep ∷ path) m n differ = ends_differ path _ _ (kept_children keep m n differ)

-- the walks to any other place of the same depth end at one node
pub ends_meet : (path place : List Bool) (m n : Node) → n.bit ≡ not m.bit → length place ≡ length path → path ≢ place
    → walk m (corrections_of path m n) place ≡ walk n (corrections_of path m n) place
unfolding corrections_of walk
ends_meet [] [] m n differ l ne = absurd (ne refl)
ends_meet [] (side ∷ place) m n differ l ne = absurd (omega arith)
ends_meet (keep ∷ path) [] m n differ l ne = absurd (omega arith)
ends_meet (true ∷ path) (true ∷ place) m n differ l ne =
    ends_meet path place _ _ (kept_children true m n differ) (omega arith) (λ e. ne (ap (λ (p : List Bool). true ∷ p) e))
ends_meet (false ∷ path) (false ∷ place) m n differ l ne =
    ends_meet path place _ _ (kept_children false m n differ) (omega arith) (λ e. ne (ap (λ (p : List Bool). false ∷ p) e))
ends_meet (true ∷ path) (false ∷ place) m n differ l ne =
    let c : Correction = correction_of true m n in
    ap (λ (v : Node). walk v (corrections_of path (child_of true m c) (child_of true n c)) place) (lost_children true m n differ)
ends_meet (false ∷ path) (true ∷ place) m n differ l ne =
    let c : Correction = correction_of false m n in
    ap (λ (v : Node). walk v (corrections_of path (child_of false m c) (child_of false n c)) place) (lost_children false m n differ)
