-- Bits in bytes, by words of eight bytes.
use Rattle.std.proofs.Common.{drop-drop, pow-suc, ◌≡◌, ℕ, zero, suc, ◌+◌, ◌-◌, ◌*◌, ◌/◌, ◌%◌, ◌^◌, ◌<◌, ◌≤◌, min, inl, inr, Bool, true, false, not, ◌&&◌, ◌==◌, List, [], ◌∷◌, ◌++◌, length, get_or, take, drop, refl, sym, ap, ◌∙◌, arith}
use Rattle.std.specs.Int.{w64, bit_at, from_le_bytes, to_le_bytes}
use Rattle.std.proofs.Math.Seq.{take-add}
use Rattle.std.proofs.lemmas.Bool.{cases_lt}
use Rattle.std.proofs.lemmas.Bool.Decides.{eqb_tells}
use Rattle.std.proofs.lemmas.List.{append-nil, get_or_append_left, get_or-append_right, get_or-take, get_or-drop, get_or_past, length-append, length-drop, length-take, drop_at, drop_all, take_all}
use Rattle.std.proofs.lemmas.List.FromFn.{fill_by_all}
use Rattle.std.proofs.lemmas.Nat.{shr-shr, shr_le}
use Rattle.std.proofs.lemmas.Nat.Bits.{bit_at-lt, bit_at-zero, bit_at_cat_low, bit_at_cat_high}
use Rattle.dory_base.specs.Packed.{word_bit, bits_of}
use Rattle.dory_base.proofs.Packing.{bits_same}
use Rattle.dory_fields.specs.Bytes.{IsBytes}
use Rattle.dory_fields.specs.Packing.{byte, bytes_of, packed_len, packed, bits_from, bits_in, is_clear}
use Rattle.dory_fields.proofs.Fields.{IsBytes-drop}
use Rattle.dory_fields.proofs.Unpacking.{length-bits_from, length-bits_in, get_or-bits_in}
use Rattle.dory_fields.proofs.Packing.{digit, clear_at, length-packed, word_byte}

-- ---- words out of bytes

-- the word of bytes depends on the first eight alone
pub same_word : (xs ys : List ℕ) → ((i : ℕ) → i < 8 → get_or xs i 0 ≡ get_or ys i 0) → from_le_bytes w64 xs ≡ from_le_bytes w64 ys
same_word xs ys each =
    omega (arith, each 0 (omega arith), each 1 (omega arith), each 2 (omega arith), each 3 (omega arith), each 4 (omega arith), each 5 (omega arith), each 6 (omega arith), each 7 (omega arith))

-- so many bytes as a number, the first of them the lowest
abbrev joined : ℕ → (ℕ → ℕ) → ℕ
joined zero f = 0
joined (suc n) f = joined n (λ i. f (suc i)) * 2 ^ 8 + f 0

bit_in : (f : ℕ → ℕ) (i j k l : ℕ) → i ≡ j → k ≡ l → bit_at (f i) k ≡ bit_at (f j) l
bit_in f i j k l p q = rw (p, q) refl

bit_of_joined : (n : ℕ) (f : ℕ → ℕ) → ((i : ℕ) → f i < 2 ^ 8) → (k : ℕ) → k < 8 * n → bit_at (joined n f) k ≡ bit_at (f (k / 8)) (k % 8)
bit_of_joined zero f small k h = absurd (omega arith)
bit_of_joined (suc n) f small k h =
    let later : ℕ → ℕ = λ i. f (suc i) in
    elim (cases_lt k 8) [
      | inl lt ↦ bit_at_cat_low (joined n later) 8 (f 0) k lt ∙ bit_in f 0 (k / 8) k (k % 8) (omega arith) (omega arith)
      | inr le ↦
          bit_at_cat_high (joined n later) 8 (f 0) k (small 0) le ∙ bit_of_joined n later (λ i. small (suc i)) (k - 8) (omega arith)
          ∙ bit_in f (suc ((k - 8) / 8)) (k / 8) ((k - 8) % 8) (k % 8) (omega arith) (omega arith)
    ]

-- bit k of a word is bit k mod 8 of byte k div 8
bit_of_word : (bytes : List ℕ) (k : ℕ) → IsBytes bytes → k < 64 → bit_at (from_le_bytes w64 bytes) k ≡ bit_at (get_or bytes (k / 8) 0) (k % 8)
bit_of_word bytes k small h =
    let each : ℕ → ℕ = λ i. get_or bytes i 0 in
    let same : from_le_bytes w64 bytes ≡ joined 8 each = omega arith in
    ap (λ (w : ℕ). bit_at w k) same ∙ bit_of_joined 8 each small k h

-- each word is that of its eight bytes
abbrev pub AreWords : List ℕ → List ℕ → Type 0
AreWords words bytes = (k : ℕ) → k < length words → get_or words k 0 ≡ from_le_bytes w64 (drop (8 * k) bytes)

-- one more word is read
pub words_more : (words bytes : List ℕ) (w : ℕ) → AreWords words bytes → w ≡ from_le_bytes w64 (drop (8 * length words) bytes) → AreWords (words ++ w ∷ []) bytes
words_more words bytes w are is k h =
    elim (cases_lt k (length words)) [
      | inl lt ↦ get_or_append_left words (w ∷ []) 0 k lt ∙ are k lt
      | inr le ↦
          let here : k ≡ length words = omega (arith, length-append words (w ∷ []), h, le) in
          let first : k - length words ≡ 0 = omega arith in
          get_or-append_right words (w ∷ []) (length words) k 0 refl le ∙ ap (λ (i : ℕ). get_or (w ∷ []) i 0) first ∙ is ∙ ap (λ (i : ℕ). from_le_bytes w64 (drop (8 * i) bytes)) (sym here)
    ]

-- the first eight bytes of what is left are one word more
pub front_word : (words bytes rest : List ℕ) → rest ≡ drop (8 * length words) bytes → from_le_bytes w64 (take 8 rest) ≡ from_le_bytes w64 (drop (8 * length words) bytes)
front_word words bytes rest is = same_word (take 8 rest) rest (λ i h. get_or-take 8 rest i 0 h) ∙ ap (from_le_bytes w64) is

pub left_later : (words bytes rest : List ℕ) (w : ℕ) → rest ≡ drop (8 * length words) bytes → drop 8 rest ≡ drop (8 * length (words ++ w ∷ [])) bytes
left_later words bytes rest w is =
    let more : 8 * length words + 8 ≡ 8 * length (words ++ w ∷ []) = omega (arith, length-append words (w ∷ [])) in
    ap (drop 8) is ∙ drop-drop 8 (8 * length words) bytes ∙ ap (λ (n : ℕ). drop n bytes) (omega (arith, more))

-- the bits that the words show are those of the bytes
pub word_bits : (words bytes : List ℕ) → IsBytes bytes → AreWords words bytes → length words ≡ (length bytes + 7) / 8 → (j : ℕ) → word_bit words j ≡ bit_at (get_or bytes (j / 8) 0) (j % 8)
word_bits words bytes small are len j =
    elim (cases_lt (j / 64) (length words)) [
      | inl h ↦
          let front = drop (8 * (j / 64)) bytes in
          ap (λ (w : ℕ). bit_at w (j % 64)) (are (j / 64) h) ∙ bit_of_word front (j % 64) (IsBytes-drop (8 * (j / 64)) bytes small) (omega arith)
          ∙ ap (λ (b : ℕ). bit_at b (j % 64 % 8)) (get_or-drop (8 * (j / 64)) bytes (j % 64 / 8) 0)
          ∙ bit_in (λ i. get_or bytes i 0) (8 * (j / 64) + j % 64 / 8) (j / 8) (j % 64 % 8) (j % 8) (omega arith) (omega arith)
      | inr h ↦
          ap (λ (w : ℕ). bit_at w (j % 64)) (get_or_past words (j / 64) 0 h) ∙ bit_at-zero (j % 64) ∙ sym (bit_at-zero (j % 8))
          ∙ ap (λ (b : ℕ). bit_at b (j % 8)) (sym (get_or_past bytes (j / 8) 0 (omega (arith, h, len))))
    ]

-- ---- the bits after the last

not_bit : (b : ℕ) → (not (b % 2 == 1) && (b / 2 == 0)) ≡ (b == 0)
not_bit b =
    elim (eqb_tells b 0) [
      | inl is ↦ rw is.1 refl
      | inr isnt ↦
          elim (eqb_tells (b % 2) 1) [
            | inl odd ↦ rw (odd.0, isnt.0) refl
            | inr even ↦
                elim (eqb_tells (b / 2) 0) [
                  | inl none ↦ absurd (isnt.1 (parts b even.1 none.1))
                  | inr some ↦ rw (even.0, some.0, isnt.0) refl
                ]
          ]
    ]
  where
    low : (x : ℕ) → x < 2 → (x ≡ 1 → ⊥) → x ≡ 0
    low zero h odd = refl
    low (suc zero) h odd = absurd (odd refl)
    low (suc (suc x)) h odd = absurd (omega arith)

    parts : (b : ℕ) → (b % 2 ≡ 1 → ⊥) → b / 2 ≡ 0 → b ≡ 0
    parts b odd half =
        let even : b % 2 ≡ 0 = low (b % 2) (omega arith) odd in
        omega (arith, even, half)

all_of_byte : (n b : ℕ) → b < 2 ^ n → is_clear (bits_from n b) ≡ (b == 0)
all_of_byte zero b h =
    let none : b ≡ 0 = omega arith in
    rw none refl
all_of_byte (suc n) b h = ap (λ (c : Bool). not (b % 2 == 1) && c) (all_of_byte n (b / 2) (omega (arith, pow-suc 2 n))) ∙ not_bit b

halved : (b r : ℕ) → b / 2 / 2 ^ r ≡ b / 2 ^ suc r
halved b r =
    let at : 1 + r ≡ suc r = omega arith in
    shr-shr b 1 r ∙ ap (λ (n : ℕ). b / 2 ^ n) at

clear_from : (n r b : ℕ) → b < 2 ^ n → is_clear (drop r (bits_from n b)) ≡ (b / 2 ^ r == 0)
clear_from n zero b h =
    let whole : b ≡ b / 2 ^ 0 = omega arith in
    all_of_byte n b h ∙ ap (λ (x : ℕ). x == 0) whole
clear_from zero (suc r) b h =
    let none : b / 2 ^ suc r ≡ 0 = omega (arith, h, shr_le b (suc r)) in
    rw none refl
clear_from (suc n) (suc r) b h = clear_from n r (b / 2) (omega (arith, pow-suc 2 n)) ∙ ap (λ (x : ℕ). x == 0) (halved b r)

clear_last : (k r : ℕ) (bytes : List ℕ) → length bytes ≡ suc k → drop (8 * k + r) (bits_in bytes) ≡ drop r (bits_from 8 (get_or bytes k 0))
clear_last k r [] len = absurd (omega arith)
clear_last zero r (b ∷ []) len =
    let at : 8 * 0 + r ≡ r = omega arith in
    ap (λ (n : ℕ). drop n (bits_from 8 b ++ [])) at ∙ ap (drop r) (append-nil (bits_from 8 b))
clear_last zero r (b ∷ c ∷ bytes) len = absurd (omega arith)
clear_last (suc k) r (b ∷ bytes) len =
    let more : 8 * suc k + r ≡ 8 + (8 * k + r) = omega arith in
    ap (λ (n : ℕ). drop n (bits_from 8 b ++ bits_in bytes)) more ∙ sym (drop-drop (8 * k + r) 8 (bits_from 8 b ++ bits_in bytes))
    ∙ ap (drop (8 * k + r)) (drop_at (bits_from 8 b) (bits_in bytes) 8 (length-bits_from 8 b)) ∙ clear_last k r bytes (omega (arith, len))

-- as many bits as bytes have: nothing is after the last
pub whole_bytes : (bytes : List ℕ) (n : ℕ) → length bytes ≡ packed_len n → n % 8 ≡ 0 → is_clear (drop n (bits_in bytes)) ≡ true
whole_bytes bytes n len whole =
    let none : drop n (bits_in bytes) ≡ [] = drop_all n (bits_in bytes) (omega (arith, length-bits_in bytes, len, whole)) in
    rw none refl

-- else the bits after the last are the high ones of the last byte
pub part_of_byte : (bytes : List ℕ) (n : ℕ) → IsBytes bytes → length bytes ≡ packed_len n → (n % 8 ≡ 0 → ⊥) → is_clear (drop n (bits_in bytes)) ≡ (get_or bytes (n / 8) 0 / 2 ^ (n % 8) == 0)
part_of_byte bytes n small len part =
    let some : 1 ≤ n % 8 = above (n % 8) part in
    let at : n ≡ 8 * (n / 8) + n % 8 = omega arith in
    ap (λ (m : ℕ). is_clear (drop m (bits_in bytes))) at ∙ ap is_clear (clear_last (n / 8) (n % 8) bytes (omega (arith, len, some)))
    ∙ clear_from 8 (n % 8) (get_or bytes (n / 8) 0) (small (n / 8))
  where
    above : (x : ℕ) → (x ≡ 0 → ⊥) → 1 ≤ x
    above zero none = absurd (none refl)
    above (suc x) none = omega arith

-- ---- bits out of words

bit_false : (x : ℕ) → x < 2 → (x == 1) ≡ false → x ≡ 0
bit_false zero h e = refl
bit_false (suc zero) h e = absurd cc
bit_false (suc (suc x)) h e = absurd (omega arith)

-- the words show no bit after the last
pub clear_words : (words bytes : List ℕ) (n : ℕ) → ((j : ℕ) → word_bit words j ≡ bit_at (get_or bytes (j / 8) 0) (j % 8)) → is_clear (drop n (bits_in bytes)) ≡ true → (j : ℕ) → n ≤ j → word_bit words j ≡ 0
clear_words words bytes n each clear j far =
    let b = bit_at (get_or bytes (j / 8) 0) (j % 8) in
    let at : n + (j - n) ≡ j = omega arith in
    let off : (b == 1) ≡ false = sym (get_or-bits_in bytes j) ∙ ap (λ (i : ℕ). get_or (bits_in bytes) i false) (sym at) ∙ sym (get_or-drop n (bits_in bytes) (j - n) false) ∙ clear_at (drop n (bits_in bytes)) (j - n) clear in
    each j ∙ bit_false b (bit_at-lt (get_or bytes (j / 8) 0) (j % 8)) off

-- and the first bits are those of the bytes
pub bits_of_words : (words bytes : List ℕ) (n : ℕ) → ((j : ℕ) → word_bit words j ≡ bit_at (get_or bytes (j / 8) 0) (j % 8)) → n ≤ 8 * length bytes → bits_of n words ≡ take n (bits_in bytes)
bits_of_words words bytes n each low =
    bits_same (take n (bits_in bytes)) n words (omega (arith, length-take n (bits_in bytes), length-bits_in bytes, low)) (λ k h.
    get_or-take n (bits_in bytes) k false h ∙ get_or-bits_in bytes k ∙ ap (λ (x : ℕ). x == 1) (sym (each k)))

-- ---- bytes out of words

get_or-bytes_of : (n k : ℕ) (xs : List Bool) → k < n → get_or (bytes_of n xs) k 0 ≡ byte (take 8 (drop (8 * k) xs))
get_or-bytes_of zero k xs h = absurd (omega arith)
get_or-bytes_of (suc n) zero xs h = refl
get_or-bytes_of (suc n) (suc k) xs h =
    let at : 8 + 8 * k ≡ 8 * suc k = omega arith in
    get_or-bytes_of n k (drop 8 xs) (omega arith) ∙ ap (λ (ys : List Bool). byte (take 8 ys)) (drop-drop (8 * k) 8 xs ∙ ap (λ (m : ℕ). drop m xs) at)

byte_of_word : (w k : ℕ) → k < 8 → get_or (to_le_bytes w64 w) k 0 ≡ w / 2 ^ (8 * k) % 2 ^ 8
byte_of_word w zero h = omega arith
byte_of_word w (suc zero) h = refl
byte_of_word w (suc (suc zero)) h = refl
byte_of_word w (suc (suc (suc zero))) h = refl
byte_of_word w (suc (suc (suc (suc zero)))) h = refl
byte_of_word w (suc (suc (suc (suc (suc zero))))) h = refl
byte_of_word w (suc (suc (suc (suc (suc (suc zero)))))) h = refl
byte_of_word w (suc (suc (suc (suc (suc (suc (suc zero))))))) h = refl
byte_of_word w (suc (suc (suc (suc (suc (suc (suc (suc k)))))))) h = absurd (omega arith)

word_part : (words : List ℕ) (i j k l : ℕ) → i ≡ j → k ≡ l → get_or words i 0 / 2 ^ (8 * k) % 2 ^ 8 ≡ get_or words j 0 / 2 ^ (8 * l) % 2 ^ 8
word_part words i j k l p q = rw (p, q) refl

same_numbers : (xs ys : List ℕ) (n : ℕ) → length xs ≡ n → length ys ≡ n → ((k : ℕ) → k < n → get_or xs k 0 ≡ get_or ys k 0) → xs ≡ ys
same_numbers xs ys n p q each = fill_by_all (λ k. get_or ys k 0) xs n 0 p each ∙ sym (fill_by_all (λ k. get_or ys k 0) ys n 0 q (λ k h. refl))

-- the first bytes of a word are the next of the packed bits
word_piece : (words : List ℕ) (bits : List Bool) (i piece : ℕ) → ((j : ℕ) → word_bit words j ≡ digit (get_or bits j false)) → piece ≤ 8 → 8 * i + piece ≤ packed_len (length bits)
    → take piece (to_le_bytes w64 (get_or words i 0)) ≡ take piece (drop (8 * i) (packed bits))
word_piece words bits i piece each few low =
    let eight : length (to_le_bytes w64 (get_or words i 0)) ≡ 8 = refl in
    same_numbers (take piece (to_le_bytes w64 (get_or words i 0))) (take piece (drop (8 * i) (packed bits))) piece
    (omega (arith, length-take piece (to_le_bytes w64 (get_or words i 0)), eight, few))
    (omega (arith, length-take piece (drop (8 * i) (packed bits)), length-drop (8 * i) (packed bits), length-packed bits, low)) (λ k h.
    get_or-take piece (to_le_bytes w64 (get_or words i 0)) k 0 h ∙ byte_of_word (get_or words i 0) k (omega (arith, h, few))
    ∙ word_part words i ((8 * i + k) / 8) k ((8 * i + k) % 8) (omega (arith, h, few)) (omega (arith, h, few)) ∙ word_byte words bits (8 * i + k) each
    ∙ sym (get_or-bytes_of (packed_len (length bits)) (8 * i + k) bits (omega (arith, h, low))) ∙ sym (get_or-drop (8 * i) (packed bits) k 0)
    ∙ sym (get_or-take piece (drop (8 * i) (packed bits)) k 0 h))

-- one more word is written
pub piece_more : (words : List ℕ) (bits : List Bool) (i piece : ℕ) → ((j : ℕ) → word_bit words j ≡ digit (get_or bits j false)) → piece ≤ 8 → 8 * i + piece ≤ packed_len (length bits)
    → take (8 * i) (packed bits) ++ take piece (to_le_bytes w64 (get_or words i 0)) ≡ take (8 * i + piece) (packed bits)
piece_more words bits i piece each few low =
    ap (λ (ys : List ℕ). take (8 * i) (packed bits) ++ ys) (word_piece words bits i piece each few low) ∙ sym (take-add (8 * i) piece (packed bits))

-- the bytes after this word, too
pub piece_done : (words : List ℕ) (bits : List Bool) (i left piece : ℕ) → ((j : ℕ) → word_bit words j ≡ digit (get_or bits j false)) → left ≡ packed_len (length bits) - 8 * i → piece ≡ min left 8 → 8 * i ≤ packed_len (length bits)
    → take (8 * i) (packed bits) ++ take piece (to_le_bytes w64 (get_or words i 0)) ≡ take (8 * (i + 1)) (packed bits)
piece_done words bits i left piece each left_is piece_is low =
    piece_more words bits i piece each (omega (arith, piece_is)) (omega (arith, piece_is, left_is, low))
    ∙ elim (cases_lt left 8) [
      | inl few ↦
          let p = packed bits in
          let end : length p ≤ 8 * i + piece = omega (arith, length-packed bits, piece_is, left_is, few) in
          let past : length p ≤ 8 * (i + 1) = omega (arith, length-packed bits, left_is, few) in
          take_all (8 * i + piece) p end ∙ sym (take_all (8 * (i + 1)) p past)
      | inr whole ↦
          let at : 8 * i + piece ≡ 8 * (i + 1) = omega (arith, piece_is, whole) in
          ap (λ (n : ℕ). take n (packed bits)) at
    ]
