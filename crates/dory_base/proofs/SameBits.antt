-- Words that show the same bits.
use Rattle.std.proofs.Common.{◌≡◌, ℕ, ◌+◌, ◌*◌, ◌/◌, ◌%◌, ◌<◌, Bool, false, cond, List, length, get_or, sym, ap, ◌∙◌, arith, inl, inr}
use Rattle.std.specs.Prelude.{◌==◌}
use Rattle.std.specs.Int.{bit_at}
use Rattle.std.proofs.lemmas.Bool.{cases_lt}
use Rattle.std.proofs.lemmas.List.{get_or_past}
use Rattle.dory_base.specs.Packed.{word_bit, bits_of, IsPacked}
use Rattle.dory_base.proofs.Packing.{length-bits_of, get_or-bits_of, bits_same, word_bit_is}

-- the words before this one show the same bits
abbrev pub SameUpTo : ℕ → List ℕ → List ℕ → Type 0
SameUpTo n ws vs = (i : ℕ) → i < n → (k : ℕ) → k < 64 → bit_at (get_or ws i 0) k ≡ bit_at (get_or vs i 0) k

pub same_next : (n : ℕ) (ws vs : List ℕ) → SameUpTo n ws vs → ((k : ℕ) → k < 64 → bit_at (get_or ws n 0) k ≡ bit_at (get_or vs n 0) k) → SameUpTo (n + 1) ws vs
same_next n ws vs same here i h k low =
    elim (cases_lt i n) [
      | inl before ↦ same i before k low
      | inr after ↦
          let e : n ≡ i = omega arith in
          ap (λ (x : ℕ). bit_at (get_or ws x 0) k) (sym e) ∙ here k low ∙ ap (λ (x : ℕ). bit_at (get_or vs x 0) k) e
    ]

-- so all their bits are
pub same_all : (ws vs : List ℕ) → length ws ≡ length vs → SameUpTo (length ws) ws vs → (j : ℕ) → word_bit ws j ≡ word_bit vs j
same_all ws vs e same j =
    elim (cases_lt (j / 64) (length ws)) [
      | inl h ↦ same (j / 64) h (j % 64) (omega arith)
      | inr h ↦
          ap (λ (x : ℕ). bit_at x (j % 64)) (get_or_past ws (j / 64) 0 h ∙ sym (get_or_past vs (j / 64) 0 (omega arith)))
    ]

-- the bits of one word
pub word_same : (ws vs : List ℕ) → ((j : ℕ) → word_bit ws j ≡ word_bit vs j) → (n k : ℕ) → k < 64 → bit_at (get_or ws n 0) k ≡ bit_at (get_or vs n 0) k
word_same ws vs same n k low = sym (bit_of_word ws) ∙ same (64 * n + k) ∙ bit_of_word vs
  where
    bit_of_word : (ws : List ℕ) → word_bit ws (64 * n + k) ≡ bit_at (get_or ws n 0) k
    bit_of_word ws =
        let a : (64 * n + k) / 64 ≡ n = omega arith in
        let b : (64 * n + k) % 64 ≡ k = omega arith in
        ap (λ (x : ℕ). bit_at (get_or ws x 0) ((64 * n + k) % 64)) a ∙ ap (λ (x : ℕ). bit_at (get_or ws n 0) x) b

-- lists of as many bits, whose words show the same
pub same_bits : (n m : ℕ) (ws vs : List ℕ) → n ≡ m → ((j : ℕ) → word_bit ws j ≡ word_bit vs j) → bits_of n ws ≡ bits_of m vs
same_bits n m ws vs e same =
    bits_same (bits_of m vs) n ws (length-bits_of m vs ∙ sym e) (λ k h. get_or-bits_of m vs k (omega arith) ∙ ap (λ (x : ℕ). x == 1) (sym (same k)))

-- equal bits are equally many, and their words show the same
pub same_length : (n m : ℕ) (ws vs : List ℕ) → bits_of n ws ≡ bits_of m vs → n ≡ m
same_length n m ws vs e = sym (length-bits_of n ws) ∙ ap (length {A = Bool}) e ∙ length-bits_of m vs

pub same_shown : (n m : ℕ) (ws vs : List ℕ) → IsPacked n ws → IsPacked m vs → bits_of n ws ≡ bits_of m vs → (j : ℕ) → word_bit ws j ≡ word_bit vs j
same_shown n m ws vs p q e j = word_bit_is n ws p j ∙ ap (λ (bs : List Bool). cond (get_or bs j false) 1 0) e ∙ sym (word_bit_is m vs q j)
