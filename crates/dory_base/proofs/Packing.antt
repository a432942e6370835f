-- The bits that words show: one written, and two lists XORed.
use Rattle.std.proofs.Common.{◌≡◌, ℕ, zero, suc, ◌+◌, ◌/◌, ◌%◌, ◌<◌, ◌≤◌, ◌≢◌, inl, inr, Bool, true, false, cond, ◌==◌, List, [], ◌∷◌, length, get_or, set, replicate, bit_xor, refl, sym, ap, ◌∙◌, arith}
use mathlib.Core.Path.{ap₂}
use Rattle.std.specs.Int.{bit_at}
use Rattle.std.specs.Simd.Lanes.{zip2}
use Rattle.std.proofs.lemmas.Bool.{cases_eq, cases_lt}
use Rattle.std.proofs.lemmas.List.{get_or-set_same, get_or-set_other, get_or_past}
use Rattle.std.proofs.lemmas.List.FromFn.{length-map-range_with_len, get_or-map-range_with_len, fill_by_all}
use Rattle.std.proofs.lemmas.Simd.{length-zip2, get_or-zip2, length-replicate, get_or-replicate}
use Rattle.std.proofs.lemmas.Nat.Bits.{bit_at-lt, bit_at-zero, bit_at_xor}
use Rattle.std.proofs.Math.ListN.{length-set}
use Rattle.dory_base.specs.Packed.{word_bit, bits_of, IsPacked}
use Rattle.dory_base.specs.Xor.{xor}

pub length-bits_of : (n : ℕ) (ws : List ℕ) → length (bits_of n ws) ≡ n
length-bits_of n ws = length-map-range_with_len (λ j. word_bit ws j == 1) 0 n

pub get_or-bits_of : (n : ℕ) (ws : List ℕ) (j : ℕ) → j < n → get_or (bits_of n ws) j false ≡ (word_bit ws j == 1)
get_or-bits_of n ws j h = get_or-map-range_with_len (λ j. word_bit ws j == 1) 0 n j j false h (omega arith)

-- a list whose bits these are
pub bits_same : (xs : List Bool) (n : ℕ) (ws : List ℕ) → length xs ≡ n → ((k : ℕ) → k < n → get_or xs k false ≡ (word_bit ws k == 1)) → bits_of n ws ≡ xs
bits_same xs n ws e each = sym (fill_by_all (λ j. word_bit ws j == 1) xs n false e each)

digit_test : (x : ℕ) → x < 2 → x ≡ cond (x == 1) 1 0
digit_test zero h = refl
digit_test (suc zero) h = refl
digit_test (suc (suc x)) h = absurd (omega arith)

bool_test : (b : Bool) → b ≡ (cond b 1 0 == 1)
bool_test true = refl
bool_test false = refl

-- the words show each bit, and zeros after the last
pub word_bit_is : (n : ℕ) (ws : List ℕ) → IsPacked n ws → (j : ℕ) → word_bit ws j ≡ cond (get_or (bits_of n ws) j false) 1 0
word_bit_is n ws packed j =
    elim (cases_lt j n) [
      | inl h ↦ digit_test (word_bit ws j) (bit_at-lt (get_or ws (j / 64) 0) (j % 64)) ∙ ap (λ (b : Bool). cond b 1 0) (sym (get_or-bits_of n ws j h))
      | inr h ↦
          let far : length (bits_of n ws) ≤ j = rw (length-bits_of n ws) h in
          packed.clear j h ∙ ap (λ (b : Bool). cond b 1 0) (sym (get_or_past (bits_of n ws) j false far))
    ]

-- ---- one bit is written

other_bit : (k p : ℕ) → k ≢ p → k / 64 ≡ p / 64 → k % 64 ≢ p % 64
other_bit k p ne e f = ne (omega arith)

pub word_bit-set_other : (ws : List ℕ) (p w k : ℕ) → ((i : ℕ) → i < 64 → i ≢ p % 64 → bit_at w i ≡ bit_at (get_or ws (p / 64) 0) i)
    → p / 64 < length ws → k ≢ p → word_bit (set ws (p / 64) w) k ≡ word_bit ws k
word_bit-set_other ws p w k others h ne =
    elim (cases_eq (k / 64) (p / 64)) [
      | inl e ↦
          let small : k % 64 < 64 = omega arith in
          rw e (rw (get_or-set_same ws (p / 64) w 0 h) (others (k % 64) small (other_bit k p ne e)))
      | inr f ↦ ap (λ (x : ℕ). bit_at x (k % 64)) (get_or-set_other ws (p / 64) (k / 64) w 0 f)
    ]

pub put_packed : (n : ℕ) (ws : List ℕ) (p w : ℕ) → IsPacked n ws → p < n → p / 64 < length ws
    → ((i : ℕ) → i < 64 → i ≢ p % 64 → bit_at w i ≡ bit_at (get_or ws (p / 64) 0) i) → IsPacked n (set ws (p / 64) w)
put_packed n ws p w packed low h others = record {
  few = packed.few;
  exact = length-set ws (p / 64) w ∙ packed.exact;
  clear = λ j far. let ne : j ≢ p = omega arith in word_bit-set_other ws p w j others h ne ∙ packed.clear j far;
}

pub put_bits : (n : ℕ) (ws : List ℕ) (p w : ℕ) (b : Bool) → p < n → p / 64 < length ws → bit_at w (p % 64) ≡ cond b 1 0
    → ((i : ℕ) → i < 64 → i ≢ p % 64 → bit_at w i ≡ bit_at (get_or ws (p / 64) 0) i)
    → bits_of n (set ws (p / 64) w) ≡ set (bits_of n ws) p b
put_bits n ws p w b low h same others =
    bits_same (set (bits_of n ws) p b) n (set ws (p / 64) w) (length-set (bits_of n ws) p b ∙ length-bits_of n ws) (λ k near.
    elim (cases_eq k p) [
      | inl e ↦
          let within : p < length (bits_of n ws) = rw (length-bits_of n ws) low in
          rw e (get_or-set_same (bits_of n ws) p b false within ∙ bool_test b
          ∙ sym (ap (λ (x : ℕ). x == 1) (ap (λ (x : ℕ). bit_at x (p % 64)) (get_or-set_same ws (p / 64) w 0 h) ∙ same)))
      | inr f ↦
          get_or-set_other (bits_of n ws) p k b false f ∙ get_or-bits_of n ws k near
          ∙ ap (λ (x : ℕ). x == 1) (sym (word_bit-set_other ws p w k others h f))
    ])

-- ---- two lists are XORed

xor_digits : (x y : ℕ) → x < 2 → y < 2 → ((x + y) % 2 == 1) ≡ xor (x == 1) (y == 1)
xor_digits zero zero h k = refl
xor_digits zero (suc zero) h k = refl
xor_digits (suc zero) zero h k = refl
xor_digits (suc zero) (suc zero) h k = refl
xor_digits (suc (suc x)) y h k = absurd (omega arith)
xor_digits zero (suc (suc y)) h k = absurd (omega arith)
xor_digits (suc zero) (suc (suc y)) h k = absurd (omega arith)

pub word_bit-xor : (us vs : List ℕ) (j : ℕ) → length us ≡ length vs → word_bit (zip2 bit_xor us vs) j ≡ (word_bit us j + word_bit vs j) % 2
word_bit-xor us vs j same =
    elim (cases_lt (j / 64) (length us)) [
      | inl h ↦
          let k : j / 64 < length vs = omega arith in
          ap (λ (x : ℕ). bit_at x (j % 64)) (get_or-zip2 bit_xor us vs (j / 64) 0 0 0 h k) ∙ bit_at_xor (get_or us (j / 64) 0) (get_or vs (j / 64) 0) (j % 64)
      | inr h ↦
          let k : length vs ≤ j / 64 = omega arith in
          let far : length (zip2 bit_xor us vs) ≤ j / 64 = rw (length-zip2 bit_xor us vs same) h in
          rw (get_or_past (zip2 bit_xor us vs) (j / 64) 0 far, get_or_past us (j / 64) 0 h, get_or_past vs (j / 64) 0 k, bit_at-zero (j % 64)) refl
    ]

pub xor_packed : (n : ℕ) (us vs : List ℕ) → IsPacked n us → IsPacked n vs → IsPacked n (zip2 bit_xor us vs)
xor_packed n us vs p q =
    let same : length us ≡ length vs = p.exact ∙ sym q.exact in
    record {
      few = p.few;
      exact = length-zip2 bit_xor us vs same ∙ p.exact;
      clear = λ j far. word_bit-xor us vs j same ∙ ap₂ (λ (x y : ℕ). (x + y) % 2) (p.clear j far) (q.clear j far);
    }

pub xor_bits : (n : ℕ) (us vs : List ℕ) → length us ≡ length vs → bits_of n (zip2 bit_xor us vs) ≡ zip2 xor (bits_of n us) (bits_of n vs)
xor_bits n us vs same =
    let a : length (bits_of n us) ≡ n = length-bits_of n us in
    let b : length (bits_of n vs) ≡ n = length-bits_of n vs in
    bits_same (zip2 xor (bits_of n us) (bits_of n vs)) n (zip2 bit_xor us vs) (length-zip2 xor (bits_of n us) (bits_of n vs) (a ∙ sym b) ∙ a) (λ k near.
    let h : k < length (bits_of n us) = omega arith in
    let i : k < length (bits_of n vs) = omega arith in
    get_or-zip2 xor (bits_of n us) (bits_of n vs) k false false false h i
    ∙ ap₂ xor (get_or-bits_of n us k near) (get_or-bits_of n vs k near)
    ∙ sym (ap (λ (x : ℕ). x == 1) (word_bit-xor us vs k same) ∙ xor_digits (word_bit us k) (word_bit vs k) (bit_at-lt (get_or us (k / 64) 0) (k % 64)) (bit_at-lt (get_or vs (k / 64) 0) (k % 64))))

-- ---- zeros

pub word_bit-zeros : (m j : ℕ) → word_bit (replicate m 0) j ≡ 0
word_bit-zeros m j =
    elim (cases_lt (j / 64) m) [
      | inl h ↦ ap (λ (x : ℕ). bit_at x (j % 64)) (get_or-replicate m (j / 64) 0 0 h) ∙ bit_at-zero (j % 64)
      | inr h ↦
          let far : length (replicate m 0) ≤ j / 64 = rw (length-replicate {A = ℕ} m 0) h in
          ap (λ (x : ℕ). bit_at x (j % 64)) (get_or_past (replicate m 0) (j / 64) 0 far) ∙ bit_at-zero (j % 64)
    ]

pub zero_packed : (n : ℕ) → n ≤ 4096 → IsPacked n (replicate ((n + 63) / 64) 0)
zero_packed n few = record { few = few; exact = length-replicate {A = ℕ} ((n + 63) / 64) 0; clear = λ j far. word_bit-zeros ((n + 63) / 64) j }

pub zero_bits : (n m : ℕ) → bits_of n (replicate m 0) ≡ replicate n false
zero_bits n m =
    bits_same (replicate n false) n (replicate m 0) (length-replicate {A = Bool} n false) (λ k near.
    get_or-replicate n k false false near ∙ sym (ap (λ (x : ℕ). x == 1) (word_bit-zeros m k)))

-- ---- a loop that XORs in place

pub zip2_same : (zs us vs : List ℕ) → length us ≡ length vs → length zs ≡ length us
    → ((k : ℕ) → k < length us → get_or zs k 0 ≡ bit_xor (get_or us k 0) (get_or vs k 0)) → zs ≡ zip2 bit_xor us vs
zip2_same [] [] [] e f each = refl
zip2_same (z ∷ zs) [] vs e f each = absurd (omega arith)
zip2_same [] (u ∷ us) vs e f each = absurd (omega arith)
zip2_same zs [] (v ∷ vs) e f each = absurd (omega arith)
zip2_same (z ∷ zs) (u ∷ us) [] e f each = absurd (omega arith)
zip2_same (z ∷ zs) (u ∷ us) (v ∷ vs) e f each =
    let g : length us ≡ length vs = omega arith in
    let h : length zs ≡ length us = omega arith in
    ap₂ (λ (x : ℕ) (xs : List ℕ). x ∷ xs) (each 0 (omega arith)) (zip2_same zs us vs g h (λ k near. each (suc k) (omega arith)))
