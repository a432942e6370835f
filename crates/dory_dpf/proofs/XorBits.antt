-- XOR of bits: as the code writes it, and of the bits of XORed bytes.
use Rattle.std.proofs.Common.{◌≡◌, ℕ, zero, suc, ◌+◌, ◌/◌, ◌%◌, ◌^◌, ◌<◌, ◌≢◌, inl, inr, Bool, true, false, not, ◌==◌, List, length, get_or, replicate, refl, ap, ◌∙◌, arith}
use mathlib.Core.Bool.{beq}
use Rattle.std.specs.Int.{bit_at}
use Rattle.std.proofs.lemmas.Bool.{cases_eq, cases_lt}
use Rattle.std.proofs.lemmas.Bool.Decides.{eqb_tells}
use Rattle.std.proofs.lemmas.List.{get_or-set_same, get_or-set_other, get_or_past}
use Rattle.std.proofs.lemmas.Simd.{length-replicate, get_or-replicate}
use Rattle.std.proofs.lemmas.Nat.Bits.{bit_at-lt, bit_at-zero, bit_at_xor, bit_at-pow_same, bit_at-pow_other}
use Rattle.dory_base.specs.Xor.{xor}
use Rattle.dory_dpf.specs.Sixteen.{xor_bytes, byte_bit, one_bit}
use Rattle.dory_dpf.proofs.XorLaws.{get_or-xor_bytes}

pub same_number : (a b : ℕ) → a ≡ b → (a == b) ≡ true
same_number a b e = elim (eqb_tells a b) [ inl h ↦ h.0 | inr h ↦ absurd (h.1 e) ]

pub other_number : (a b : ℕ) → a ≢ b → (a == b) ≡ false
other_number a b ne = elim (eqb_tells a b) [ inl h ↦ absurd (ne h.1) | inr h ↦ h.0 ]

pub xor_is : (a b : Bool) → not (beq a b) ≡ xor a b
xor_is true true = refl
xor_is true false = refl
xor_is false true = refl
xor_is false false = refl

xor_digits : (x y : ℕ) → x < 2 → y < 2 → ((x + y) % 2 == 1) ≡ xor (x == 1) (y == 1)
xor_digits zero zero h k = refl
xor_digits zero (suc zero) h k = refl
xor_digits (suc zero) zero h k = refl
xor_digits (suc zero) (suc zero) h k = refl
xor_digits (suc (suc x)) y h k = absurd (omega arith)
xor_digits zero (suc (suc y)) h k = absurd (omega arith)
xor_digits (suc zero) (suc (suc y)) h k = absurd (omega arith)

-- a bit of XORed bytes
pub byte_bit-xor : (xs ys : List ℕ) (r : ℕ) → byte_bit (xor_bytes xs ys) r ≡ xor (byte_bit xs r) (byte_bit ys r)
byte_bit-xor xs ys r =
    let x = get_or xs (r / 8) 0 in
    let y = get_or ys (r / 8) 0 in
    ap (λ (w : ℕ). bit_at w (r % 8) == 1) (get_or-xor_bytes xs ys (r / 8))
    ∙ ap (λ (w : ℕ). w == 1) (bit_at_xor x y (r % 8))
    ∙ xor_digits (bit_at x (r % 8)) (bit_at y (r % 8)) (bit_at-lt x (r % 8)) (bit_at-lt y (r % 8))

zero_byte : (k : ℕ) → get_or (replicate {A = ℕ} 16 0) k 0 ≡ 0
zero_byte k =
    elim (cases_lt k 16) [
      | inl h ↦ get_or-replicate 16 k 0 0 h
      | inr h ↦ get_or_past (replicate 16 0) k 0 (rw (length-replicate {A = ℕ} 16 0) h)
    ]

same_place : (p r : ℕ) → p / 8 ≡ r / 8 → p % 8 ≡ r % 8 → p ≡ r
same_place p r e f = omega arith

-- the one bit is the one asked for
pub byte_bit-one : (p r : ℕ) → p < 128 → r < 128 → byte_bit (one_bit p) r ≡ (r == p)
byte_bit-one p r low near =
    let zeros : List ℕ = replicate 16 0 in
    let inside : p / 8 < length zeros = omega arith in
    elim (cases_eq r p) [
      | inl e ↦ rw (e, get_or-set_same zeros (p / 8) (2 ^ (p % 8)) 0 inside, bit_at-pow_same (p % 8), same_number p p refl) refl
      | inr f ↦
          rw (other_number r p f) (
          elim (cases_eq (r / 8) (p / 8)) [
            | inl e ↦
                let other : r % 8 ≢ p % 8 = λ g. f (same_place r p e g) in
                rw (e, get_or-set_same zeros (p / 8) (2 ^ (p % 8)) 0 inside, bit_at-pow_other (p % 8) (r % 8) other) refl
            | inr g ↦ rw (get_or-set_other zeros (p / 8) (r / 8) (2 ^ (p % 8)) 0 g, zero_byte (r / 8), bit_at-zero (r % 8)) refl
          ])
    ]
