-- The laws of XOR on lists of bytes.
use Rattle.std.proofs.Common.{◌≡◌, ℕ, zero, suc, List, [], ◌∷◌, length, replicate, get_or, bit_xor, refl, sym, ap, ap₂, arith}
use Rattle.std.proofs.lemmas.Nat.{xor_comm}
use lib.Bits.{xor_assoc, xor_self, xor_zero_r, xor_zero_l}
use Rattle.dory_dpf.specs.Sixteen.{xor_bytes}

pub xor_bytes_comm : (xs ys : List ℕ) → xor_bytes xs ys ≡ xor_bytes ys xs
xor_bytes_comm [] [] = refl
xor_bytes_comm [] (y ∷ ys) = refl
xor_bytes_comm (x ∷ xs) [] = refl
xor_bytes_comm (x ∷ xs) (y ∷ ys) = ap₂ (λ a as'. a ∷ as') (xor_comm x y) (xor_bytes_comm xs ys)

pub xor_bytes_assoc : (xs ys zs : List ℕ) → xor_bytes (xor_bytes xs ys) zs ≡ xor_bytes xs (xor_bytes ys zs)
xor_bytes_assoc [] ys zs = refl
xor_bytes_assoc (x ∷ xs) [] zs = refl
xor_bytes_assoc (x ∷ xs) (y ∷ ys) [] = refl
xor_bytes_assoc (x ∷ xs) (y ∷ ys) (z ∷ zs) = ap₂ (λ a as'. a ∷ as') (xor_assoc x y z) (xor_bytes_assoc xs ys zs)

pub xor_bytes_self : (xs : List ℕ) → xor_bytes xs xs ≡ replicate (length xs) 0
xor_bytes_self [] = refl
xor_bytes_self (x ∷ xs) = ap₂ (λ a as'. a ∷ as') (xor_self x) (xor_bytes_self xs)

pub xor_bytes_zero : (xs : List ℕ) → xor_bytes (replicate (length xs) 0) xs ≡ xs
xor_bytes_zero [] = refl
xor_bytes_zero (x ∷ xs) = ap₂ (λ a as'. a ∷ as') (xor_zero_l x) (xor_bytes_zero xs)

pub length-xor_bytes : (xs ys : List ℕ) → length xs ≡ length ys → length (xor_bytes xs ys) ≡ length xs
length-xor_bytes [] ys h = omega arith
length-xor_bytes (x ∷ xs) [] h = refl
length-xor_bytes (x ∷ xs) (y ∷ ys) h = ap suc (length-xor_bytes xs ys (omega arith))

pub xor_bytes_cancel : (xs ys : List ℕ) → length xs ≡ length ys → xor_bytes xs (xor_bytes xs ys) ≡ ys
xor_bytes_cancel [] ys h = refl
xor_bytes_cancel (x ∷ xs) [] h = absurd (omega arith)
xor_bytes_cancel (x ∷ xs) (y ∷ ys) h =
    ap₂ (λ a as'. a ∷ as') (rw (← xor_assoc x x y, xor_self, xor_zero_l) refl) (xor_bytes_cancel xs ys (omega arith))

pub get_or-xor_bytes : (xs ys : List ℕ) (k : ℕ) → get_or (xor_bytes xs ys) k 0 ≡ bit_xor (get_or xs k 0) (get_or ys k 0)
get_or-xor_bytes [] ys k = refl
get_or-xor_bytes (x ∷ xs) [] zero = sym (xor_zero_r x)
get_or-xor_bytes (x ∷ xs) [] (suc k) = sym (xor_zero_r (get_or xs k 0))
get_or-xor_bytes (x ∷ xs) (y ∷ ys) zero = refl
get_or-xor_bytes (x ∷ xs) (y ∷ ys) (suc k) = get_or-xor_bytes xs ys k
