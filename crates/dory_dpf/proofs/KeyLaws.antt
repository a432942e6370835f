-- Every key that is made is a key.
use Rattle.std.proofs.Common.{◌≡◌, ℕ, zero, suc, ◌≤◌, Bool, not, List, [], ◌∷◌, All, length, take, Option, refl, sym, ap, ◌∙◌, subst, arith}
use Rattle.dory_dpf.specs.declared.tree.Correction.{Correction}
use Rattle.dory_dpf.specs.declared.tree.Node.{Node}
use Rattle.dory_dpf.specs.Block.{doubled_of}
use Rattle.dory_dpf.specs.Tree.{side_seed, correction_of, correction_under, corrections_of}
use Rattle.dory_dpf.specs.PointKey.{IsKey, kept_key, form_with, last_bytes, last_len, levels_of}
use Rattle.dory_dpf.proofs.XorLaws.{length-xor_bytes}
use Rattle.dory_dpf.proofs.Children.{length-side}

pub length-corrections_of : (path : List Bool) (m n : Node) → length (corrections_of path m n) ≡ length path
unfolding corrections_of
length-corrections_of [] m n = refl
length-corrections_of (keep ∷ path) m n = ap suc (length-corrections_of path _ _)

length-correction : (keep : Bool) (m n : Node) → length (correction_of keep m n).seed ≡ 16
unfolding correction_under
length-correction keep m n =
    let a = length-side (not keep) m.seed in
    let b = length-side (not keep) n.seed in
    length-xor_bytes (side_seed (not keep) (doubled_of m.seed)) (side_seed (not keep) (doubled_of n.seed)) (a ∙ sym b) ∙ a

pub whole-corrections_of : (path : List Bool) (m n : Node) → All (λ c. length c.seed ≡ 16) (corrections_of path m n)
unfolding corrections_of
whole-corrections_of [] m n k d h = absurd (omega arith)
whole-corrections_of (keep ∷ path) m n zero d h = length-correction keep m n
whole-corrections_of (keep ∷ path) m n (suc k) d h = whole-corrections_of path _ _ k d (omega arith)

pub is_key : (depth party : ℕ) (seed : List ℕ) (cs : List Correction) (last : Option (List ℕ)) (path : List Bool) (m n : Node)
    → 8 ≤ depth → depth ≤ 11 → party ≤ 1 → length seed ≡ 16
    → take (levels_of (form_with last) depth) cs ≡ corrections_of path m n
    → length path ≡ levels_of (form_with last) depth
    → length (last_bytes last) ≡ last_len (form_with last)
    → IsKey (kept_key depth party seed cs last)
is_key depth party seed cs last path m n low high parties sixteen made long whole =
    record {
      low = low;
      high = high;
      parties = parties;
      seed = sixteen;
      levels = ap (length {A = Correction}) made ∙ length-corrections_of path m n ∙ long;
      whole = subst (λ (xs : List Correction). All (λ c. length c.seed ≡ 16) xs) (sym made) (whole-corrections_of path m n);
      last = whole;
    }
