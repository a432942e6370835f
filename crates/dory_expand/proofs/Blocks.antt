-- Lists in blocks of one length, and words as bits.
use Rattle.std.proofs.Common.{◌≡◌, ℕ, zero, suc, ◌+◌, ◌-◌, ◌*◌, ◌/◌, ◌%◌, ◌^◌, ◌<◌, ◌≤◌, ◌==◌, Bool, true, false, cond, List, [], ◌∷◌, ◌++◌, flat_map, length, get_or, set, refl, sym, ap, ◌∙◌, arith}
use Rattle.std.proofs.Math.Nat.{pow-succ'}
use Rattle.std.specs.Int.{bit_at}
use Rattle.std.proofs.Math.ListN.{get_or-append}
use Rattle.std.proofs.lemmas.List.{get_or-append_right, length-append, append-nil, get_or_past}
use Rattle.std.proofs.lemmas.List.FromFn.{fill_by_all, length-map-range_with_len, get_or-map-range_with_len}
use Rattle.std.proofs.lemmas.Nat.Bits.{bit_at_lowest, bit_at-suc, bit_at-zero}
use Rattle.dory_base.specs.Packed.{word_bit, bits_of}
use Rattle.dory_expand.specs.Shown.{all_bits, bits_of_word, number_of_bits}

pub length-blocks : {X A : Type 0} (f : X → List A) (m : ℕ) → ((x : X) → length (f x) ≡ m) → (xs : List X) → length (flat_map f xs) ≡ m * length xs
length-blocks f m each [] = omega arith
length-blocks f m each (x ∷ xs) = omega (arith, length-append (f x) (flat_map f xs), each x, length-blocks f m each xs)

-- element r of block q
pub block_at : {X A : Type 0} (f : X → List A) (m : ℕ) → ((x : X) → length (f x) ≡ m) → (xs : List X) (q r : ℕ) (e : X) (d : A) → q < length xs → r < m
    → get_or (flat_map f xs) (m * q + r) d ≡ get_or (f (get_or xs q e)) r d
block_at f m each [] q r e d h k = absurd (omega arith)
block_at f m each (x ∷ xs) zero r e d h k =
    let same : m * 0 + r ≡ r = omega arith in
    ap (λ (i : ℕ). get_or (f x ++ flat_map f xs) i d) same ∙ get_or-append (f x) (flat_map f xs) d r (omega (arith, each x))
block_at f m each (x ∷ xs) (suc q) r e d h k =
    let over : m * suc q + r ≡ m + (m * q + r) = omega arith in
    let less : m + (m * q + r) - m ≡ m * q + r = omega arith in
    ap (λ (i : ℕ). get_or (f x ++ flat_map f xs) i d) over
    ∙ get_or-append_right (f x) (flat_map f xs) m (m + (m * q + r)) d (each x) (omega arith)
    ∙ ap (λ (i : ℕ). get_or (flat_map f xs) i d) less
    ∙ block_at f m each xs q r e d (omega arith) k

pub length-bits_of_word : (w : ℕ) → length (bits_of_word w) ≡ 64
unfolding bits_of_word
length-bits_of_word w = length-map-range_with_len (λ k. bit_at w k == 1) 0 64

pub length-all_bits : (ws : List ℕ) → length (all_bits ws) ≡ 64 * length ws
length-all_bits ws = length-blocks bits_of_word 64 length-bits_of_word ws

-- bit j of the words is bit j mod 64 of word j div 64
pub bit_of_words : (ws : List ℕ) (j : ℕ) → j < 64 * length ws → get_or (all_bits ws) j false ≡ (word_bit ws j == 1)
unfolding bits_of_word
bit_of_words ws j h =
    let w = get_or ws (j / 64) 0 in
    let place : 64 * (j / 64) + j % 64 ≡ j = omega arith in
    let inside : j / 64 < length ws = omega arith in
    ap (λ (i : ℕ). get_or (all_bits ws) i false) (sym place)
    ∙ block_at bits_of_word 64 length-bits_of_word ws (j / 64) (j % 64) 0 false inside (omega arith)
    ∙ get_or-map-range_with_len (λ k. bit_at w k == 1) 0 64 (j % 64) (j % 64) false (omega arith) (omega arith)

pub words_show : (ws : List ℕ) (n : ℕ) → 64 * length ws ≡ n → bits_of n ws ≡ all_bits ws
words_show ws n e =
    sym (fill_by_all (λ j. word_bit ws j == 1) (all_bits ws) n false (length-all_bits ws ∙ e) (λ k h. bit_of_words ws k (omega arith)))

-- no bit is set after the last word
pub clear_after : (ws : List ℕ) (j : ℕ) → 64 * length ws ≤ j → word_bit ws j ≡ 0
clear_after ws j h =
    let far : length ws ≤ j / 64 = omega arith in
    ap (λ (w : ℕ). bit_at w (j % 64)) (get_or_past ws (j / 64) 0 far) ∙ bit_at-zero (j % 64)

-- ---- numbers from bits

digit_low : (b : Bool) → cond b 1 0 < 2
digit_low true = omega arith
digit_low false = omega arith

pub number_low : (bs : List Bool) → number_of_bits bs < 2 ^ length bs
unfolding number_of_bits
number_low [] = omega arith
number_low (b ∷ bs) =
    let e : 2 ^ suc (length bs) ≡ 2 * 2 ^ length bs = pow-succ' 2 (length bs) in
    omega (arith, digit_low b, number_low bs, e)

twice : (a p : ℕ) → a * (2 * p) ≡ 2 * (a * p)
twice a p = omega arith

pub number_joined : (xs ys : List Bool) → number_of_bits (xs ++ ys) ≡ number_of_bits xs + number_of_bits ys * 2 ^ length xs
unfolding number_of_bits
number_joined [] ys = omega arith
number_joined (b ∷ xs) ys =
    let e : 2 ^ suc (length xs) ≡ 2 * 2 ^ length xs = pow-succ' 2 (length xs) in
    let f = number_joined xs ys in
    let g : number_of_bits ys * 2 ^ suc (length xs) ≡ 2 * (number_of_bits ys * 2 ^ length xs) = rw e (twice (number_of_bits ys) (2 ^ length xs)) in
    omega (arith, f, g)

digit_test : (b : Bool) → (cond b 1 0 == 1) ≡ b
digit_test true = refl
digit_test false = refl

pub number_bit : (bs : List Bool) (k : ℕ) → k < length bs → (bit_at (number_of_bits bs) k == 1) ≡ get_or bs k false
unfolding number_of_bits
number_bit [] k h = absurd (omega arith)
number_bit (b ∷ bs) zero h =
    let x = cond b 1 0 + 2 * number_of_bits bs in
    let low : x % 2 ≡ cond b 1 0 = omega (arith, digit_low b) in
    ap (λ (y : ℕ). y == 1) (bit_at_lowest x ∙ low) ∙ digit_test b
number_bit (b ∷ bs) (suc k) h =
    let x = cond b 1 0 + 2 * number_of_bits bs in
    let high : x / 2 ≡ number_of_bits bs = omega (arith, digit_low b) in
    ap (λ (y : ℕ). y == 1) (bit_at-suc x k ∙ ap (λ (y : ℕ). bit_at y k) high) ∙ number_bit bs k (omega arith)

pub number_again : (bs : List Bool) → length bs ≡ 64 → bits_of_word (number_of_bits bs) ≡ bs
unfolding bits_of_word
number_again bs e = sym (fill_by_all (λ k. bit_at (number_of_bits bs) k == 1) bs 64 false e (λ k h. sym (number_bit bs k (omega arith))))

-- the one word that is written
pub one_word : (ws : List ℕ) (bs : List Bool) → length ws ≡ 1 → length bs ≡ 64 → all_bits (set ws 0 (number_of_bits bs)) ≡ bs
one_word [] bs e f = absurd (omega arith)
one_word (w ∷ []) bs e f = append-nil (bits_of_word (number_of_bits bs)) ∙ number_again bs f
one_word (w ∷ v ∷ ws) bs e f = absurd (omega arith)
