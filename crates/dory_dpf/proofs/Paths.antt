-- A leaf's path tells the leaf.
use Rattle.std.proofs.Common.{◌≡◌, ℕ, zero, suc, ◌^◌, ◌<◌, ◌==◌, inl, inr, Bool, List, [], ◌∷◌, length, refl, ap, arith}
use Rattle.std.specs.Int.{bit_at}
use Rattle.std.proofs.lemmas.Bool.{cases_eq}
use Rattle.std.proofs.lemmas.Nat.Bits.{bit_at-lt, same_from_bits_below}
use Rattle.dory_dpf.specs.PointKey.{path_of}

pub length-path_of : (n leaf : ℕ) → length (path_of n leaf) ≡ n
unfolding path_of
length-path_of zero leaf = refl
length-path_of (suc n) leaf = ap suc (length-path_of n leaf)

digit : (x y : ℕ) → x < 2 → y < 2 → (x == 1) ≡ (y == 1) → x ≡ y
digit x y h k e = grind arith

head_of : Bool → List Bool → Bool
head_of d [] = d
head_of d (x ∷ xs) = x

tail_of : List Bool → List Bool
tail_of [] = []
tail_of (x ∷ xs) = xs

path_bits : (n a x : ℕ) → path_of n a ≡ path_of n x → (i : ℕ) → i < n → bit_at a i ≡ bit_at x i
unfolding path_of head_of tail_of
path_bits zero a x e i h = absurd (omega arith)
path_bits (suc n) a x e i h =
    elim (cases_eq i n) [
      | inl at ↦ rw at (digit (bit_at a n) (bit_at x n) (bit_at-lt a n) (bit_at-lt x n) (ap (head_of (bit_at a n == 1)) e))
      | inr other ↦
          let below : i < n = omega arith in
          path_bits n a x (ap tail_of e) i below
    ]

pub path_tells : (n a x : ℕ) → a < 2 ^ n → x < 2 ^ n → path_of n a ≡ path_of n x → a ≡ x
path_tells n a x h k e = same_from_bits_below n a x h k (path_bits n a x e)
