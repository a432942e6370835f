-- The XOR of two numbers of sixteen bytes, by halves.
use Rattle.std.proofs.Common.{◌≡◌, ℕ, zero, suc, ◌<◌, ◌+◌, ◌*◌, ◌%◌, ◌^◌, List, [], ◌∷◌, length, get_or, take, drop, refl, ap, sym, ◌∙◌, arith, subst}
use Rattle.std.specs.Prelude.{bit_xor}
use Rattle.std.specs.List.{AllByRecursion}
use Rattle.std.specs.Int.{w64, from_be_bytes, to_be_bytes}
use Rattle.std.proofs.lemmas.Nat.{from_be_bytes-to_be_bytes_8, xor_block}
use Rattle.dory_base.specs.TagBytes.{IsTagBytes, half, tag_number}

written_16 : (b : List ℕ) → length b ≡ 16 → get_or b 0 0 ∷ get_or b 1 0 ∷ get_or b 2 0 ∷ get_or b 3 0 ∷ get_or b 4 0 ∷ get_or b 5 0 ∷ get_or b 6 0 ∷ get_or b 7 0 ∷ get_or b 8 0 ∷ get_or b 9 0 ∷ get_or b 10 0 ∷ get_or b 11 0 ∷ get_or b 12 0 ∷ get_or b 13 0 ∷ get_or b 14 0 ∷ get_or b 15 0 ∷ [] ≡ b
written_16 [] l = absurd (omega arith)
written_16 (x0 ∷ []) l = absurd (omega arith)
written_16 (x0 ∷ x1 ∷ []) l = absurd (omega arith)
written_16 (x0 ∷ x1 ∷ x2 ∷ []) l = absurd (omega arith)
written_16 (x0 ∷ x1 ∷ x2 ∷ x3 ∷ []) l = absurd (omega arith)
written_16 (x0 ∷ x1 ∷ x2 ∷ x3 ∷ x4 ∷ []) l = absurd (omega arith)
written_16 (x0 ∷ x1 ∷ x2 ∷ x3 ∷ x4 ∷ x5 ∷ []) l = absurd (omega arith)
written_16 (x0 ∷ x1 ∷ x2 ∷ x3 ∷ x4 ∷ x5 ∷ x6 ∷ []) l = absurd (omega arith)
written_16 (x0 ∷ x1 ∷ x2 ∷ x3 ∷ x4 ∷ x5 ∷ x6 ∷ x7 ∷ []) l = absurd (omega arith)
written_16 (x0 ∷ x1 ∷ x2 ∷ x3 ∷ x4 ∷ x5 ∷ x6 ∷ x7 ∷ x8 ∷ []) l = absurd (omega arith)
written_16 (x0 ∷ x1 ∷ x2 ∷ x3 ∷ x4 ∷ x5 ∷ x6 ∷ x7 ∷ x8 ∷ x9 ∷ []) l = absurd (omega arith)
written_16 (x0 ∷ x1 ∷ x2 ∷ x3 ∷ x4 ∷ x5 ∷ x6 ∷ x7 ∷ x8 ∷ x9 ∷ x10 ∷ []) l = absurd (omega arith)
written_16 (x0 ∷ x1 ∷ x2 ∷ x3 ∷ x4 ∷ x5 ∷ x6 ∷ x7 ∷ x8 ∷ x9 ∷ x10 ∷ x11 ∷ []) l = absurd (omega arith)
written_16 (x0 ∷ x1 ∷ x2 ∷ x3 ∷ x4 ∷ x5 ∷ x6 ∷ x7 ∷ x8 ∷ x9 ∷ x10 ∷ x11 ∷ x12 ∷ []) l = absurd (omega arith)
written_16 (x0 ∷ x1 ∷ x2 ∷ x3 ∷ x4 ∷ x5 ∷ x6 ∷ x7 ∷ x8 ∷ x9 ∷ x10 ∷ x11 ∷ x12 ∷ x13 ∷ []) l = absurd (omega arith)
written_16 (x0 ∷ x1 ∷ x2 ∷ x3 ∷ x4 ∷ x5 ∷ x6 ∷ x7 ∷ x8 ∷ x9 ∷ x10 ∷ x11 ∷ x12 ∷ x13 ∷ x14 ∷ []) l = absurd (omega arith)
written_16 (x0 ∷ x1 ∷ x2 ∷ x3 ∷ x4 ∷ x5 ∷ x6 ∷ x7 ∷ x8 ∷ x9 ∷ x10 ∷ x11 ∷ x12 ∷ x13 ∷ x14 ∷ x15 ∷ []) l = refl
written_16 (x0 ∷ x1 ∷ x2 ∷ x3 ∷ x4 ∷ x5 ∷ x6 ∷ x7 ∷ x8 ∷ x9 ∷ x10 ∷ x11 ∷ x12 ∷ x13 ∷ x14 ∷ x15 ∷ x ∷ b) l = absurd (omega arith)

low : (n : ℕ) → n % 256 < 256
low n = omega arith

bounded : (bytes : List ℕ) → AllByRecursion (λ b. b < 256) bytes → (i : ℕ) → get_or bytes i 0 < 256
bounded [] all i = omega arith
bounded (b ∷ bytes) all zero = all.0
bounded (b ∷ bytes) all (suc i) = bounded bytes all.1 i

-- what is put together of two halves
pub are_bytes : (h l : List ℕ) (x y : ℕ) → h ≡ to_be_bytes w64 x → l ≡ to_be_bytes w64 y → IsTagBytes (get_or h 0 0 ∷ get_or h 1 0 ∷ get_or h 2 0 ∷ get_or h 3 0 ∷ get_or h 4 0 ∷ get_or h 5 0 ∷ get_or h 6 0 ∷ get_or h 7 0 ∷ get_or l 0 0 ∷ get_or l 1 0 ∷ get_or l 2 0 ∷ get_or l 3 0 ∷ get_or l 4 0 ∷ get_or l 5 0 ∷ get_or l 6 0 ∷ get_or l 7 0 ∷ [])
are_bytes h l x y e f = record {
  sixteen = refl;
  small = bounded (get_or h 0 0 ∷ get_or h 1 0 ∷ get_or h 2 0 ∷ get_or h 3 0 ∷ get_or h 4 0 ∷ get_or h 5 0 ∷ get_or h 6 0 ∷ get_or h 7 0 ∷ get_or l 0 0 ∷ get_or l 1 0 ∷ get_or l 2 0 ∷ get_or l 3 0 ∷ get_or l 4 0 ∷ get_or l 5 0 ∷ get_or l 6 0 ∷ get_or l 7 0 ∷ []) (all e f);
}
  where
    all : h ≡ to_be_bytes w64 x → l ≡ to_be_bytes w64 y → AllByRecursion (λ b. b < 256) (get_or h 0 0 ∷ get_or h 1 0 ∷ get_or h 2 0 ∷ get_or h 3 0 ∷ get_or h 4 0 ∷ get_or h 5 0 ∷ get_or h 6 0 ∷ get_or h 7 0 ∷ get_or l 0 0 ∷ get_or l 1 0 ∷ get_or l 2 0 ∷ get_or l 3 0 ∷ get_or l 4 0 ∷ get_or l 5 0 ∷ get_or l 6 0 ∷ get_or l 7 0 ∷ [])
    all e f = subst (λ (v : List ℕ). AllByRecursion (λ b. b < 256) (get_or v 0 0 ∷ get_or v 1 0 ∷ get_or v 2 0 ∷ get_or v 3 0 ∷ get_or v 4 0 ∷ get_or v 5 0 ∷ get_or v 6 0 ∷ get_or v 7 0 ∷ get_or l 0 0 ∷ get_or l 1 0 ∷ get_or l 2 0 ∷ get_or l 3 0 ∷ get_or l 4 0 ∷ get_or l 5 0 ∷ get_or l 6 0 ∷ get_or l 7 0 ∷ [])) (sym e) (subst (λ (w : List ℕ). AllByRecursion (λ b. b < 256) (get_or (to_be_bytes w64 x) 0 0 ∷ get_or (to_be_bytes w64 x) 1 0 ∷ get_or (to_be_bytes w64 x) 2 0 ∷ get_or (to_be_bytes w64 x) 3 0 ∷ get_or (to_be_bytes w64 x) 4 0 ∷ get_or (to_be_bytes w64 x) 5 0 ∷ get_or (to_be_bytes w64 x) 6 0 ∷ get_or (to_be_bytes w64 x) 7 0 ∷ get_or w 0 0 ∷ get_or w 1 0 ∷ get_or w 2 0 ∷ get_or w 3 0 ∷ get_or w 4 0 ∷ get_or w 5 0 ∷ get_or w 6 0 ∷ get_or w 7 0 ∷ [])) (sym f) (low _, (low _, (low _, (low _, (low _, (low _, (low _, (low _, (low _, (low _, (low _, (low _, (low _, (low _, (low _, (low _, tt)))))))))))))))))

pub number_of : (h l : List ℕ) (x y : ℕ) → x < 2 ^ 64 → y < 2 ^ 64 → h ≡ to_be_bytes w64 x → l ≡ to_be_bytes w64 y → tag_number (get_or h 0 0 ∷ get_or h 1 0 ∷ get_or h 2 0 ∷ get_or h 3 0 ∷ get_or h 4 0 ∷ get_or h 5 0 ∷ get_or h 6 0 ∷ get_or h 7 0 ∷ get_or l 0 0 ∷ get_or l 1 0 ∷ get_or l 2 0 ∷ get_or l 3 0 ∷ get_or l 4 0 ∷ get_or l 5 0 ∷ get_or l 6 0 ∷ get_or l 7 0 ∷ []) ≡ x * 2 ^ 64 + y
unfolding tag_number
number_of h l x y p q e f =
    (λ i. half (e i) * 2 ^ 64 + half (f i))
    ∙ (λ i. from_be_bytes-to_be_bytes_8 x p i * 2 ^ 64 + from_be_bytes-to_be_bytes_8 y q i)

pub halves : (b : List ℕ) → length b ≡ 16 → tag_number b ≡ from_be_bytes w64 (get_or b 0 0 ∷ get_or b 1 0 ∷ get_or b 2 0 ∷ get_or b 3 0 ∷ get_or b 4 0 ∷ get_or b 5 0 ∷ get_or b 6 0 ∷ get_or b 7 0 ∷ []) * 2 ^ 64 + from_be_bytes w64 (get_or b 8 0 ∷ get_or b 9 0 ∷ get_or b 10 0 ∷ get_or b 11 0 ∷ get_or b 12 0 ∷ get_or b 13 0 ∷ get_or b 14 0 ∷ get_or b 15 0 ∷ [])
unfolding tag_number
halves b e = ap (λ v. half (take 8 v) * 2 ^ 64 + half (drop 8 v)) (sym (written_16 b e))

pub xor_halves : (a b c d : ℕ) → c < 2 ^ 64 → d < 2 ^ 64 → bit_xor (a * 2 ^ 64 + c) (b * 2 ^ 64 + d) ≡ bit_xor a b * 2 ^ 64 + bit_xor c d
xor_halves a b c d p q = xor_block 64 a b c d p q

pub together : (self other : List ℕ) (a b c d x y : ℕ) → tag_number self ≡ a * 2 ^ 64 + c → tag_number other ≡ b * 2 ^ 64 + d → a < 2 ^ 64 → b < 2 ^ 64 → c < 2 ^ 64 → d < 2 ^ 64 → tag_number self ≡ x → tag_number other ≡ y → bit_xor a b * 2 ^ 64 + bit_xor c d ≡ bit_xor x y
together self other a b c d x y e f p q r s is is' = sym (xor_halves a b c d r s) ∙ (λ i. bit_xor (e' i) (f' i))
  where
    e' : a * 2 ^ 64 + c ≡ x
    e' = sym e ∙ is

    f' : b * 2 ^ 64 + d ≡ y
    f' = sym f ∙ is'
