-- The two words of a leaf, and two halves of a word.
use Rattle.std.proofs.Common.{◌≡◌, ℕ, suc, ◌+◌, ◌-◌, ◌*◌, ◌/◌, ◌%◌, ◌^◌, ◌<◌, ◌≤◌, ◌==◌, inl, inr, Bool, true, false, ◌&&◌, cond, if◌then◌else◌, List, [], ◌∷◌, ◌++◌, length, get_or, take, drop, Some, refl, sym, ap, ◌∙◌, arith}
use mathlib.Core.Path.{ap₂}
use Rattle.std.specs.Int.{bit_at, w64, from_bool, from_le_bytes}
use Rattle.std.proofs.Math.Nat.{pow-le-pow_right}
use Rattle.std.proofs.lemmas.Bool.{cases_lt}
use Rattle.std.proofs.lemmas.List.{get_or-drop, get_or-take, get_or_past, length-append, length-drop, length-take-le}
use Rattle.std.proofs.lemmas.List.FromFn.{fill_by_all}
use Rattle.std.proofs.lemmas.Nat.Bits.{bit_at-zero, bit_at_cat_low, bit_at_cat_high}
use Rattle.dory_base.specs.Packed.{word_bit}
use Rattle.dory_base.specs.Xor.{xor}
use Rattle.dory_dpf.specs.declared.tree.Node.{Node}
use Rattle.dory_dpf.specs.Sixteen.{xor_bytes, byte_bit}
use Rattle.dory_dpf.specs.PointKey.{share_at}
use Rattle.dory_dpf.proofs.XorBits.{byte_bit-xor}
use Rattle.dory_expand.specs.Leaves.{leaf_bits}
use Rattle.dory_expand.specs.Shown.{all_bits, number_of_bits}
use Rattle.dory_expand.proofs.Blocks.{bit_of_words, length-all_bits, number_low, number_joined}

-- ---- bytes to a word

le_number : List ℕ → ℕ
le_number [] = 0
le_number (b ∷ bs) = le_number bs * 2 ^ 8 + b

le_bit : (bs : List ℕ) (k : ℕ) → ((i : ℕ) → get_or bs i 0 < 256) → bit_at (le_number bs) k ≡ bit_at (get_or bs (k / 8) 0) (k % 8)
unfolding le_number
le_bit [] k small = bit_at-zero k ∙ sym (bit_at-zero (k % 8))
le_bit (b ∷ bs) k small =
    elim (cases_lt k 8) [
      | inl h ↦
          let e : k / 8 ≡ 0 = omega arith in
          let f : k % 8 ≡ k = omega arith in
          rw (e, f) (bit_at_cat_low (le_number bs) 8 b k h)
      | inr h ↦
          let e : k / 8 ≡ suc ((k - 8) / 8) = omega arith in
          let f : k % 8 ≡ (k - 8) % 8 = omega arith in
          rw (e, f) (bit_at_cat_high (le_number bs) 8 b k (small 0) h ∙ le_bit bs (k - 8) (λ i. small (suc i)))
    ]

le_is : (bs : List ℕ) → length bs ≡ 8 → from_le_bytes w64 bs ≡ le_number bs
unfolding le_number
le_is (a ∷ b ∷ c ∷ d ∷ e ∷ f ∷ g ∷ h ∷ []) l = omega arith
le_is [] l = absurd (omega arith)
le_is (a ∷ []) l = absurd (omega arith)
le_is (a ∷ b ∷ []) l = absurd (omega arith)
le_is (a ∷ b ∷ c ∷ []) l = absurd (omega arith)
le_is (a ∷ b ∷ c ∷ d ∷ []) l = absurd (omega arith)
le_is (a ∷ b ∷ c ∷ d ∷ e ∷ []) l = absurd (omega arith)
le_is (a ∷ b ∷ c ∷ d ∷ e ∷ f ∷ []) l = absurd (omega arith)
le_is (a ∷ b ∷ c ∷ d ∷ e ∷ f ∷ g ∷ []) l = absurd (omega arith)
le_is (a ∷ b ∷ c ∷ d ∷ e ∷ f ∷ g ∷ h ∷ i ∷ bs) l = absurd (omega arith)

-- bit k of the word that eight bytes from a place on are
word_of_bytes : (bytes : List ℕ) (at k : ℕ) → at + 8 ≤ length bytes → ((i : ℕ) → get_or bytes i 0 < 256) → k < 64
    → bit_at (from_le_bytes w64 (take 8 (drop at bytes))) k ≡ bit_at (get_or bytes (at + k / 8) 0) (k % 8)
word_of_bytes bytes at k h small low =
    let bs = take 8 (drop at bytes) in
    let eight : length bs ≡ 8 = length-take-le 8 (drop at bytes) (omega (arith, length-drop at bytes)) in
    let byte : k / 8 < 8 = omega arith in
    let tame : (i : ℕ) → get_or bs i 0 < 256 = λ i.
    elim (cases_lt i 8) [
      | inl l ↦ rw (get_or-take 8 (drop at bytes) i 0 l, get_or-drop at bytes i 0) (small (at + i))
      | inr l ↦ rw (get_or_past bs i 0 (omega (arith, eight))) (omega arith)
    ] in
    ap (λ (x : ℕ). bit_at x k) (le_is bs eight) ∙ le_bit bs k tame
    ∙ ap (λ (x : ℕ). bit_at x (k % 8)) (get_or-take 8 (drop at bytes) (k / 8) 0 byte ∙ get_or-drop at bytes (k / 8) 0)

masked : (b : Bool) (s w : List ℕ) (r : ℕ) → byte_bit (if b then xor_bytes s w else s) r ≡ xor (byte_bit s r) (b && byte_bit w r)
masked true s w r = byte_bit-xor s w r
masked false s w r = right_false (byte_bit s r) where
  right_false : (p : Bool) → p ≡ xor p false
  right_false true = refl
  right_false false = refl

-- the two words of a leaf's bytes
leaf_words : ℕ → ℕ → List ℕ
leaf_words a b = a ∷ b ∷ []

bit_shown : (bytes : List ℕ) (j : ℕ) → length bytes ≡ 16 → ((i : ℕ) → get_or bytes i 0 < 256) → j < 128
    → word_bit (leaf_words (from_le_bytes w64 (take 8 (drop 0 bytes))) (from_le_bytes w64 (take 8 (drop 8 bytes)))) j ≡ bit_at (get_or bytes (j / 8) 0) (j % 8)
unfolding leaf_words
bit_shown bytes j sixteen small h =
    elim (cases_lt j 64) [
      | inl low ↦
          let e : j / 64 ≡ 0 = omega arith in
          let f : j % 64 ≡ j = omega arith in
          let g : 0 + j / 8 ≡ j / 8 = omega arith in
          rw (e, f) (word_of_bytes bytes 0 j (omega (arith, sixteen)) small low ∙ ap (λ (i : ℕ). bit_at (get_or bytes i 0) (j % 8)) g)
      | inr high ↦
          let e : j / 64 ≡ 1 = omega arith in
          let k = j % 64 in
          let f : 8 + k / 8 ≡ j / 8 = omega arith in
          let g : k % 8 ≡ j % 8 = omega arith in
          let low : k < 64 = omega arith in
          rw e (word_of_bytes bytes 8 k (omega (arith, sixteen)) small low ∙ ap₂ (λ (i r : ℕ). bit_at (get_or bytes i 0) r) f g)
    ]

pub leaf_shown : (bytes word : List ℕ) (leaf : Node) → length bytes ≡ 16 → ((i : ℕ) → get_or bytes i 0 < 256)
    → bytes ≡ (if leaf.bit then xor_bytes leaf.seed word else leaf.seed)
    → all_bits (from_le_bytes w64 (take 8 (drop 0 bytes)) ∷ from_le_bytes w64 (take 8 (drop 8 bytes)) ∷ []) ≡ leaf_bits word leaf
unfolding leaf_bits leaf_words
leaf_shown bytes word leaf sixteen small is =
    let ws = leaf_words (from_le_bytes w64 (take 8 (drop 0 bytes))) (from_le_bytes w64 (take 8 (drop 8 bytes))) in
    fill_by_all (share_at (Some word) leaf) (all_bits ws) 128 false (length-all_bits ws) (λ j h.
    let r : j % 128 ≡ j = omega arith in
    bit_of_words ws j h
    ∙ ap (λ (x : ℕ). x == 1) (bit_shown bytes j sixteen small h)
    ∙ ap (λ (bs : List ℕ). byte_bit bs j) is
    ∙ masked leaf.bit leaf.seed word j
    ∙ ap (λ (i : ℕ). xor (byte_bit leaf.seed i) (leaf.bit && byte_bit word i)) (sym r))

-- ---- two halves of a word

pub digit : (b : Bool) → from_bool b ≡ cond b 1 0 + 2 * 0
digit true = refl
digit false = refl

joined_low : (xs ys : List Bool) → length xs + length ys ≤ 64 → number_of_bits xs + number_of_bits ys * 2 ^ length xs < 2 ^ 64
joined_low xs ys h =
    let few : length (xs ++ ys) ≤ 64 = omega (arith, length-append xs ys) in
    let grown : 2 ^ length (xs ++ ys) ≤ 2 ^ 64 = pow-le-pow_right (omega arith) few in
    omega (arith, number_low (xs ++ ys), number_joined xs ys, grown)

pub joined_fits : (xs ys : List Bool) (l h s : ℕ) → l ≡ number_of_bits xs → h ≡ number_of_bits ys → s ≡ length xs → length xs + length ys ≤ 64
    → l + h * 2 ^ s % 2 ^ 64 < 2 ^ 64
joined_fits xs ys l h s e f g few =
    let low = joined_low xs ys few in
    let small : h * 2 ^ s ≡ number_of_bits ys * 2 ^ length xs = rw (f, g) refl in
    let x = h * 2 ^ s in
    omega (arith, low, small, e)

pub joined_word : (xs ys : List Bool) (l h s : ℕ) → l ≡ number_of_bits xs → h ≡ number_of_bits ys → s ≡ length xs → length xs + length ys ≤ 64
    → l + h * 2 ^ s % 2 ^ 64 ≡ number_of_bits (xs ++ ys)
joined_word xs ys l h s e f g few =
    let low = joined_low xs ys few in
    let small : h * 2 ^ s ≡ number_of_bits ys * 2 ^ length xs = rw (f, g) refl in
    omega (arith, low, small, e, number_joined xs ys)
