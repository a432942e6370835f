-- The two lists of shares of a position are a point pair, for all seeds.
use Rattle.std.proofs.Common.{◌≡◌, ◌≢◌, ℕ, ◌+◌, ◌-◌, ◌*◌, ◌/◌, ◌%◌, ◌^◌, ◌<◌, ◌≤◌, ◌==◌, inl, inr, Bool, true, false, not, ◌&&◌, List, map, Some, refl, sym, ap, ◌∙◌, pow-add, arith}
use mathlib.Core.Path.{ap₂}
use Rattle.std.specs.List.{range_with_len}
use Rattle.std.proofs.lemmas.Bool.{cases_eq}
use Rattle.std.proofs.lemmas.List.FromFn.{length-map-range_with_len, get_or-map-range_with_len}
use Rattle.dory_base.specs.Xor.{xor}
use Rattle.dory_base.specs.PointPair.{IsPointPair}
use Rattle.dory_dpf.specs.declared.tree.Node.{Node}
use Rattle.dory_dpf.specs.Sixteen.{xor_bytes, byte_bit, one_bit}
use Rattle.dory_dpf.specs.Tree.{corrections_of, walk}
use Rattle.dory_dpf.specs.PointKey.{path_of, root_of, share_at, share_of, shares_of, long_key_of, short_key_of}
use Rattle.dory_dpf.proofs.XorBits.{byte_bit-xor, byte_bit-one, same_number, other_number}
use Rattle.dory_dpf.proofs.Children.{ends_differ, ends_meet}
use Rattle.dory_dpf.proofs.Paths.{length-path_of, path_tells}

xor_not : (b d : Bool) → d ≡ not b → xor b d ≡ true
xor_not true d e = rw e refl
xor_not false d e = rw e refl

xor_same : (b : Bool) → xor b b ≡ false
xor_same true = refl
xor_same false = refl

-- the two parties' ends of the walk to a leaf
abbrev lead_end : ℕ → List ℕ → List ℕ → ℕ → ℕ → Node
lead_end levels s t leaf at =
    let path = path_of levels leaf in
    let m : Node = root_of 0 s in
    let n : Node = root_of 1 t in
    walk m (corrections_of path m n) (path_of levels at)

abbrev follow_end : ℕ → List ℕ → List ℕ → ℕ → ℕ → Node
follow_end levels s t leaf at =
    let path = path_of levels leaf in
    let m : Node = root_of 0 s in
    let n : Node = root_of 1 t in
    walk n (corrections_of path m n) (path_of levels at)

apart : (levels leaf : ℕ) (s t : List ℕ) → (follow_end levels s t leaf leaf).bit ≡ not (lead_end levels s t leaf leaf).bit
apart levels leaf s t = ends_differ (path_of levels leaf) (root_of 0 s) (root_of 1 t) refl

together : (levels leaf at : ℕ) (s t : List ℕ) → leaf < 2 ^ levels → at < 2 ^ levels → leaf ≢ at
    → lead_end levels s t leaf at ≡ follow_end levels s t leaf at
together levels leaf at s t h k ne =
    ends_meet (path_of levels leaf) (path_of levels at) (root_of 0 s) (root_of 1 t) refl
    (length-path_of levels at ∙ sym (length-path_of levels leaf)) (λ e. ne (path_tells levels leaf at h k e))

-- ---- form 1

long_shares : (depth position x : ℕ) (s t : List ℕ) → position < 2 ^ depth → x < 2 ^ depth
    → xor (share_of (long_key_of 0 depth position s t) x) (share_of (long_key_of 1 depth position s t) x) ≡ (x == position)
long_shares depth position x s t h k =
    elim (cases_eq x position) [
      | inl e ↦
          rw (same_number x position e) (rw e (xor_not (lead_end depth s t position position).bit (follow_end depth s t position position).bit (apart depth position s t)))
      | inr ne ↦
          let met : lead_end depth s t position x ≡ follow_end depth s t position x = together depth position x s t h k (λ e. ne (sym e)) in
          rw (other_number x position ne) (ap (λ (v : Node). xor v.bit (follow_end depth s t position x).bit) met ∙ xor_same (follow_end depth s t position x).bit)
    ]

-- ---- form 2

one_place : (b d p q u l : Bool) → d ≡ not b → l ≡ xor (xor p q) u → xor (xor p (b && l)) (xor q (d && l)) ≡ u
one_place b d p q u l e f = rw (e, f) (each b p q u) where
  each : (b p q u : Bool) → xor (xor p (b && xor (xor p q) u)) (xor q (not b && xor (xor p q) u)) ≡ u
  each true true true true = refl
  each true true true false = refl
  each true true false true = refl
  each true true false false = refl
  each true false true true = refl
  each true false true false = refl
  each true false false true = refl
  each true false false false = refl
  each false true true true = refl
  each false true true false = refl
  each false true false true = refl
  each false true false false = refl
  each false false true true = refl
  each false false true false = refl
  each false false false true = refl
  each false false false false = refl

last_bit : (a b : List ℕ) (p r : ℕ) → p < 128 → r < 128
    → byte_bit (xor_bytes (xor_bytes a b) (one_bit p)) r ≡ xor (xor (byte_bit a r) (byte_bit b r)) (r == p)
last_bit a b p r h k =
    byte_bit-xor (xor_bytes a b) (one_bit p) r ∙ ap₂ xor (byte_bit-xor a b r) (byte_bit-one p r h k)

parts : (x position : ℕ) → x / 128 ≡ position / 128 → (x % 128 == position % 128) ≡ (x == position)
parts x position e =
    elim (cases_eq x position) [
      | inl same ↦ rw (same, same_number (position % 128) (position % 128) refl, same_number position position refl) refl
      | inr ne ↦
          let other : x % 128 ≢ position % 128 = λ f. ne (joined x position e f) in
          rw (other_number x position ne, other_number (x % 128) (position % 128) other) refl
    ] where
      joined : (x position : ℕ) → x / 128 ≡ position / 128 → x % 128 ≡ position % 128 → x ≡ position
      joined x position e f = omega arith

short_shares : (depth levels position x : ℕ) (s t : List ℕ) → levels ≡ depth - 7 → position / 128 < 2 ^ levels → x / 128 < 2 ^ levels
    → xor (share_of (short_key_of 0 depth position s t) x) (share_of (short_key_of 1 depth position s t) x) ≡ (x == position)
short_shares depth levels position x s t is h k =
    let leaf = position / 128 in
    let r = x % 128 in
    let p = position % 128 in
    let m : Node = lead_end levels s t leaf leaf in
    let n : Node = follow_end levels s t leaf leaf in
    let word = xor_bytes (xor_bytes m.seed n.seed) (one_bit p) in
    rw (← is) (
    elim (cases_eq (x / 128) leaf) [
      | inl e ↦
          rw e (one_place m.bit n.bit (byte_bit m.seed r) (byte_bit n.seed r) (r == p) (byte_bit word r)
          (apart levels leaf s t) (last_bit m.seed n.seed p r (omega arith) (omega arith)) ∙ parts x position e)
      | inr ne ↦
          let v : Node = lead_end levels s t leaf (x / 128) in
          let w : Node = follow_end levels s t leaf (x / 128) in
          let met : v ≡ w = together levels leaf (x / 128) s t h k (λ e. ne (sym e)) in
          let far : x ≢ position = λ e. ne (ap (λ (y : ℕ). y / 128) e) in
          rw (other_number x position far)
          (ap (λ (u : Node). xor (share_at (Some word) u x) (share_at (Some word) w x)) met ∙ xor_same (share_at (Some word) w x))
    ])

-- ---- the lists

pair_of : (columns position : ℕ) (f g : ℕ → Bool)
    → ((x : ℕ) → x < columns → xor (f x) (g x) ≡ (x == position))
    → IsPointPair columns position (map f (range_with_len 0 columns)) (map g (range_with_len 0 columns))
pair_of columns position f g each =
    record {
      lead_has = length-map-range_with_len f 0 columns;
      follow_has = length-map-range_with_len g 0 columns;
      differ = λ x h.
          ap₂ xor (get_or-map-range_with_len f 0 columns x x false h (omega arith)) (get_or-map-range_with_len g 0 columns x x false h (omega arith))
          ∙ each x h;
    }

pub long_pair : (depth position : ℕ) (s t : List ℕ) → position < 2 ^ depth
    → IsPointPair (2 ^ depth) position (shares_of (long_key_of 0 depth position s t)) (shares_of (long_key_of 1 depth position s t))
unfolding shares_of
long_pair depth position s t h =
    pair_of (2 ^ depth) position (share_of (long_key_of 0 depth position s t)) (share_of (long_key_of 1 depth position s t))
    (λ x k. long_shares depth position x s t h k)

leaf_low : (depth x : ℕ) → 7 ≤ depth → x < 2 ^ depth → x / 128 < 2 ^ (depth - 7)
leaf_low depth x low h =
    let e : 7 + (depth - 7) ≡ depth = omega arith in
    let f : 2 ^ depth ≡ 2 ^ 7 * 2 ^ (depth - 7) = sym (ap (λ (k : ℕ). 2 ^ k) e) ∙ pow-add 2 7 (depth - 7) in
    omega (arith, f)

pub short_pair : (depth position : ℕ) (s t : List ℕ) → 7 ≤ depth → position < 2 ^ depth
    → IsPointPair (2 ^ depth) position (shares_of (short_key_of 0 depth position s t)) (shares_of (short_key_of 1 depth position s t))
unfolding shares_of
short_pair depth position s t low h =
    pair_of (2 ^ depth) position (share_of (short_key_of 0 depth position s t)) (share_of (short_key_of 1 depth position s t))
    (λ x k. short_shares depth (depth - 7) position x s t refl (leaf_low depth position low h) (leaf_low depth x low k))
