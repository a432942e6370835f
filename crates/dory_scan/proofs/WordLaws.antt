-- The words of a sum's bits, and what they show.
use Rattle.std.proofs.Common.{◌≡◌, ℕ, ◌+◌, ◌*◌, ◌/◌, ◌%◌, ◌<◌, ◌≤◌, inl, inr, Bool, true, false, cond, ◌==◌, List, [], length, map, get_or, refl, sym, ap, ◌∙◌, arith}
use Rattle.std.specs.Int.{bit_at}
use Rattle.std.proofs.lemmas.Bool.{cases_lt}
use Rattle.std.proofs.lemmas.List.{get_or_past, get_or-map, length-map}
use Rattle.std.proofs.lemmas.Nat.Bits.{bit_at-zero}
use Rattle.dory_base.specs.Packed.{word_bit, bits_of}
use Rattle.dory_base.proofs.Packing.{bits_same}
use Rattle.dory_scan.specs.Words.{IsWordOf}

-- the words of one selector, block by block
abbrev pub words_at : List (List ℕ) → ℕ → List ℕ
words_at blocks s = map (λ words. get_or words s 0) blocks

pub length-words_at : (blocks : List (List ℕ)) (s : ℕ) → length (words_at blocks s) ≡ length blocks
length-words_at blocks s = length-map blocks (λ words. get_or words s 0)

pub word_at : (blocks : List (List ℕ)) (s k : ℕ) → k < length blocks → get_or (words_at blocks s) k 0 ≡ get_or (get_or blocks k []) s 0
word_at blocks s k h = get_or-map (λ words. get_or words s 0) blocks k [] 0 h

-- the bits after the last are zero
pub words_clear : (blocks : List (List ℕ)) (s len : ℕ)
    → ((k i : ℕ) → k < length blocks → i < 64 → len ≤ 64 * k + i → bit_at (get_or (get_or blocks k []) s 0) i ≡ 0)
    → (j : ℕ) → len ≤ j → word_bit (words_at blocks s) j ≡ 0
words_clear blocks s len clear j h =
    elim (cases_lt (j / 64) (length blocks)) [
      | inl low ↦ ap (λ (x : ℕ). bit_at x (j % 64)) (word_at blocks s (j / 64) low) ∙ clear (j / 64) (j % 64) low (omega arith) (omega arith)
      | inr high ↦
          let far : length (words_at blocks s) ≤ j / 64 = omega (arith, length-words_at blocks s) in
          ap (λ (x : ℕ). bit_at x (j % 64)) (get_or_past (words_at blocks s) (j / 64) 0 far) ∙ bit_at-zero (j % 64)
    ]

bool_is : (b : Bool) → b ≡ (cond b 1 0 == 1)
bool_is true = refl
bool_is false = refl

-- words that each have their bits have all of them
pub words_are : (bits : List Bool) (ws : List ℕ) (len : ℕ) → length bits ≡ len → length ws ≡ (len + 63) / 64
    → ((k : ℕ) → k < length ws → IsWordOf bits k (get_or ws k 0)) → bits_of len ws ≡ bits
words_are bits ws len e exact each =
    bits_same bits len ws e (λ j h.
    let low : j / 64 < length ws = omega (arith, exact) in
    let at : 64 * (j / 64) + j % 64 ≡ j = omega arith in
    bool_is (get_or bits j false)
    ∙ ap (λ (x : ℕ). x == 1) (ap (λ (n : ℕ). cond (get_or bits n false) 1 0) (sym at) ∙ sym (each (j / 64) low (j % 64) (omega arith))))

-- past the last bit a word has zeros
pub word_past : (bits : List Bool) (n x i : ℕ) → IsWordOf bits n x → i < 64 → length bits ≤ 64 * n + i → bit_at x i ≡ 0
word_past bits n x i is h far = is i h ∙ ap (λ (b : Bool). cond b 1 0) (get_or_past bits (64 * n + i) false far)
