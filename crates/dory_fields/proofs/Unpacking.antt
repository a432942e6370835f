-- The bits of bytes, by their places.
use Rattle.std.proofs.Common.{◌≡◌, ℕ, zero, suc, ◌-◌, ◌*◌, ◌/◌, ◌%◌, ◌<◌, ◌≤◌, inl, inr, Bool, false, ◌==◌, List, [], ◌∷◌, length, get_or, take, refl, sym, ap, ◌∙◌, arith}
use Rattle.std.specs.Int.{bit_at}
use Rattle.std.proofs.lemmas.Bool.{cases_lt}
use Rattle.std.proofs.lemmas.List.{get_or_append_left, get_or-append_right, get_or-take, length-append, length-take}
use Rattle.std.proofs.lemmas.List.FromFn.{fill_by_all}
use Rattle.std.proofs.lemmas.Nat.Bits.{bit_at-suc, bit_at_lowest, bit_at-zero}
use Rattle.dory_fields.specs.Packing.{bits_from, bits_in}

pub length-bits_from : (n b : ℕ) → length (bits_from n b) ≡ n
length-bits_from zero b = refl
length-bits_from (suc n) b = ap suc (length-bits_from n (b / 2))

pub length-bits_in : (bytes : List ℕ) → length (bits_in bytes) ≡ 8 * length bytes
length-bits_in [] = refl
length-bits_in (b ∷ bytes) = omega (arith, length-append (bits_from 8 b) (bits_in bytes), length-bits_from 8 b, length-bits_in bytes)

pub get_or-bits_from : (n b i : ℕ) → i < n → get_or (bits_from n b) i false ≡ (bit_at b i == 1)
get_or-bits_from zero b i h = absurd (omega arith)
get_or-bits_from (suc n) b zero h = ap (λ (x : ℕ). x == 1) (sym (bit_at_lowest b))
get_or-bits_from (suc n) b (suc i) h = get_or-bits_from n (b / 2) i (omega arith) ∙ ap (λ (x : ℕ). x == 1) (sym (bit_at-suc b i))

bit_of : (bytes : List ℕ) (b i j k : ℕ) → j ≡ i / 8 → k ≡ i % 8 → (bit_at (get_or bytes j 0) k == 1) ≡ (bit_at (get_or bytes (i / 8) 0) (i % 8) == 1)
bit_of bytes b i j k p q = rw (p, q) refl

-- bit j of bytes is bit j mod 8 of byte j div 8
pub get_or-bits_in : (bytes : List ℕ) (j : ℕ) → get_or (bits_in bytes) j false ≡ (bit_at (get_or bytes (j / 8) 0) (j % 8) == 1)
get_or-bits_in [] j = ap (λ (x : ℕ). x == 1) (sym (bit_at-zero (j % 8)))
get_or-bits_in (b ∷ bytes) j =
    elim (cases_lt j 8) [
      | inl h ↦
          get_or_append_left (bits_from 8 b) (bits_in bytes) false j (rw (length-bits_from 8 b) h) ∙ get_or-bits_from 8 b j h ∙ bit_of (b ∷ bytes) b j 0 j (omega arith) (omega arith)
      | inr h ↦
          get_or-append_right (bits_from 8 b) (bits_in bytes) 8 j false (length-bits_from 8 b) h ∙ get_or-bits_in bytes (j - 8) ∙ bit_of (b ∷ bytes) b j (suc ((j - 8) / 8)) ((j - 8) % 8) (omega arith) (omega arith)
    ]

-- lists of as many bits that agree at each place
pub same_bits : (xs ys : List Bool) (n : ℕ) → length xs ≡ n → length ys ≡ n → ((k : ℕ) → k < n → get_or xs k false ≡ get_or ys k false) → xs ≡ ys
same_bits xs ys n p q each = fill_by_all (λ k. get_or ys k false) xs n false p each ∙ sym (fill_by_all (λ k. get_or ys k false) ys n false q (λ k h. refl))

pub first_bits : (xs ys : List Bool) (n : ℕ) → length xs ≡ n → n ≤ length ys → ((k : ℕ) → k < n → get_or xs k false ≡ get_or ys k false) → xs ≡ take n ys
first_bits xs ys n p q each = same_bits xs (take n ys) n p (omega (arith, length-take n ys)) (λ k h. each k h ∙ sym (get_or-take n ys k false h))
