-- Bits in bytes: what was packed is unpacked again, and what was unpacked is packed so.
use Rattle.std.proofs.Common.{pow-suc, ◌≡◌, ℕ, zero, suc, ◌+◌, ◌-◌, ◌*◌, ◌/◌, ◌%◌, ◌^◌, ◌<◌, ◌≤◌, inl, inr, Bool, true, false, cond, ◌==◌, List, [], ◌∷◌, ◌++◌, length, get_or, take, drop, Ok, refl, sym, ap, subst, ◌∙◌, arith}
use mathlib.Core.Path.{ap₂}
use Rattle.std.proofs.lemmas.Bool.{cases_lt}
use Rattle.std.proofs.lemmas.List.{get_or_append_left, get_or-append_right, get_or-take, get_or-drop, get_or_past, length-drop, length-take, take_at, drop_at}
use Rattle.std.specs.Int.{bit_at}
use Rattle.std.proofs.lemmas.Nat.{shr-shr, shr_split}
use Rattle.std.proofs.lemmas.Nat.Bits.{bit_at-lt, bit_at_cat_low, same_from_bits_below}
use Rattle.dory_base.specs.Packed.{word_bit}
use Rattle.dory_fields.specs.Bytes.{IsBytes}
use Rattle.dory_fields.specs.Packing.{byte, bytes_of, packed_len, packed, bits_from, bits_in, is_clear}
use Rattle.dory_fields.specs.Reading.{field_at, ranged, bits_at}
use Rattle.dory_fields.proofs.Unpacking.{length-bits_from, get_or-bits_from, length-bits_in, first_bits}
use Rattle.dory_fields.proofs.Fields.{IsBytes-rest, bind_ok, ranged_ok, Takes, field_takes, field_again}

abbrev pub digit : Bool → ℕ
digit b = cond b 1 0

-- the first bit of a byte, and the others
pub byte_step : (m : ℕ) (xs : List Bool) → byte (take (suc m) xs) ≡ cond (get_or xs 0 false) 1 0 + 2 * byte (take m (drop 1 xs))
byte_step zero [] = refl
byte_step (suc m) [] = refl
byte_step m (x ∷ xs) = refl

pub digit_test : (x : ℕ) → x < 2 → cond (x == 1) 1 0 ≡ x
digit_test zero h = refl
digit_test (suc zero) h = refl
digit_test (suc (suc x)) h = absurd (omega arith)

digit_is : (b : Bool) → (digit b == 1) ≡ b
digit_is true = refl
digit_is false = refl

digit_small : (b : Bool) → digit b < 2
digit_small true = omega arith
digit_small false = omega arith

-- ---- a byte is that of its bits

byte_from : (n b : ℕ) → b < 2 ^ n → byte (bits_from n b) ≡ b
byte_from zero b h = omega arith
byte_from (suc n) b h =
    let half : b / 2 < 2 ^ n = omega (arith, pow-suc 2 n) in
    let one : digit (b % 2 == 1) ≡ b % 2 = digit_test (b % 2) (omega arith) in
    ap₂ (λ (x y : ℕ). x + 2 * y) one (byte_from n (b / 2) half) ∙ omega arith

bytes_from : (bytes : List ℕ) → IsBytes bytes → bytes_of (length bytes) (bits_in bytes) ≡ bytes
bytes_from [] fits = refl
bytes_from (b ∷ bytes) fits =
    let first : byte (take 8 (bits_from 8 b ++ bits_in bytes)) ≡ b = ap byte (take_at (bits_from 8 b) (bits_in bytes) 8 (length-bits_from 8 b)) ∙ byte_from 8 b (fits 0) in
    let rest : bytes_of (length bytes) (drop 8 (bits_from 8 b ++ bits_in bytes)) ≡ bytes = ap (bytes_of (length bytes)) (drop_at (bits_from 8 b) (bits_in bytes) 8 (length-bits_from 8 b)) ∙ bytes_from bytes (IsBytes-rest b bytes fits) in
    ap₂ (λ (x : ℕ) (y : List ℕ). x ∷ y) first rest

-- ---- bytes of bits that agree at each place are the same

abbrev AgreeAt : List Bool → List Bool → Type 0
AgreeAt xs ys = (k : ℕ) → get_or xs k false ≡ get_or ys k false

agree_later : (n : ℕ) (xs ys : List Bool) → AgreeAt xs ys → AgreeAt (drop n xs) (drop n ys)
agree_later n xs ys h k = get_or-drop n xs k false ∙ h (n + k) ∙ sym (get_or-drop n ys k false)

same_byte : (m : ℕ) (xs ys : List Bool) → AgreeAt xs ys → byte (take m xs) ≡ byte (take m ys)
same_byte zero xs ys h = refl
same_byte (suc m) xs ys h =
    byte_step m xs ∙ ap₂ (λ (x : Bool) (y : ℕ). digit x + 2 * y) (h 0) (same_byte m (drop 1 xs) (drop 1 ys) (agree_later 1 xs ys h)) ∙ sym (byte_step m ys)

same_bytes : (n : ℕ) (xs ys : List Bool) → AgreeAt xs ys → bytes_of n xs ≡ bytes_of n ys
same_bytes zero xs ys h = refl
same_bytes (suc n) xs ys h = ap₂ (λ (x : ℕ) (y : List ℕ). x ∷ y) (same_byte 8 xs ys h) (same_bytes n (drop 8 xs) (drop 8 ys) (agree_later 8 xs ys h))

pub clear_at : (xs : List Bool) (i : ℕ) → is_clear xs ≡ true → get_or xs i false ≡ false
clear_at [] i h = refl
clear_at (true ∷ xs) i h = absurd cc
clear_at (false ∷ xs) zero h = refl
clear_at (false ∷ xs) (suc i) h = clear_at xs i h

all_clear : (xs : List Bool) → ((i : ℕ) → get_or xs i false ≡ false) → is_clear xs ≡ true
all_clear [] h = refl
all_clear (true ∷ xs) h =
    let e : true ≡ false = h 0 in
    absurd cc
all_clear (false ∷ xs) h = all_clear xs (λ i. h (suc i))

cut : (n : ℕ) (xs : List Bool) → is_clear (drop n xs) ≡ true → AgreeAt (take n xs) xs
cut n xs h k =
    elim (cases_lt k n) [
      | inl lt ↦ get_or-take n xs k false lt
      | inr le ↦
          let at : n + (k - n) ≡ k = omega arith in
          get_or_past (take n xs) k false (omega (arith, length-take n xs)) ∙ sym (clear_at (drop n xs) (k - n) h) ∙ get_or-drop n xs (k - n) false ∙ ap (λ (j : ℕ). get_or xs j false) at
    ]

-- ---- what is packed shows its bits

shown : (m : ℕ) (xs : List Bool) (j : ℕ) → j < m → get_or (bits_from m (byte (take m xs))) j false ≡ get_or xs j false
shown zero xs j h = absurd (omega arith)
shown (suc m) xs zero h =
    let small = digit_small (get_or xs 0 false) in
    let low : (digit (get_or xs 0 false) + 2 * byte (take m (drop 1 xs))) % 2 ≡ digit (get_or xs 0 false) = omega arith in
    ap (λ (x : ℕ). x % 2 == 1) (byte_step m xs) ∙ ap (λ (x : ℕ). x == 1) low ∙ digit_is (get_or xs 0 false)
shown (suc m) xs (suc j) h =
    let small = digit_small (get_or xs 0 false) in
    let high : (digit (get_or xs 0 false) + 2 * byte (take m (drop 1 xs))) / 2 ≡ byte (take m (drop 1 xs)) = omega arith in
    let next : 1 + j ≡ suc j = omega arith in
    ap (λ (x : ℕ). get_or (bits_from m (x / 2)) j false) (byte_step m xs) ∙ ap (λ (x : ℕ). get_or (bits_from m x) j false) high ∙ shown m (drop 1 xs) j (omega arith) ∙ get_or-drop 1 xs j false ∙ ap (λ (k : ℕ). get_or xs k false) next

all_shown : (k : ℕ) (xs : List Bool) → length xs ≤ 8 * k → AgreeAt (bits_in (bytes_of k xs)) xs
all_shown zero xs h j = sym (get_or_past xs j false (omega arith))
all_shown (suc k) xs h j =
    let b = byte (take 8 xs) in
    let later = bits_in (bytes_of k (drop 8 xs)) in
    elim (cases_lt j 8) [
      | inl lt ↦ get_or_append_left (bits_from 8 b) later false j (rw (length-bits_from 8 b) lt) ∙ shown 8 xs j lt
      | inr le ↦
          let at : 8 + (j - 8) ≡ j = omega arith in
          get_or-append_right (bits_from 8 b) later 8 j false (length-bits_from 8 b) le ∙ all_shown k (drop 8 xs) (omega (arith, length-drop 8 xs)) (j - 8) ∙ get_or-drop 8 xs (j - 8) false ∙ ap (λ (i : ℕ). get_or xs i false) at
    ]

pub length-bytes_of : (k : ℕ) (xs : List Bool) → length (bytes_of k xs) ≡ k
length-bytes_of zero xs = refl
length-bytes_of (suc k) xs = ap suc (length-bytes_of k (drop 8 xs))

pub length-packed : (bits : List Bool) → length (packed bits) ≡ packed_len (length bits)
length-packed bits = length-bytes_of (packed_len (length bits)) bits

-- ---- a field of bits

pub bits_again : (n total : ℕ) (bits : List Bool) (rest : List ℕ) → length bits ≡ n → bits_at n total (packed bits ++ rest) ≡ Ok (bits, rest)
unfolding bits_at
bits_again n total bits rest len =
    let k = packed_len n in
    let wide : n ≤ 8 * k = omega arith in
    let text : packed bits ≡ bytes_of k bits = ap (λ (m : ℕ). bytes_of (packed_len m) bits) len in
    let agree : AgreeAt (bits_in (packed bits)) bits = subst (λ (t : List ℕ). AgreeAt (bits_in t) bits) (sym text) (all_shown k bits (omega (arith, len))) in
    let long : length (packed bits) ≡ k = length-packed bits ∙ ap packed_len len in
    let front : bits ≡ take n (bits_in (packed bits)) = first_bits bits (bits_in (packed bits)) n len (omega (arith, length-bits_in (packed bits))) (λ i h. sym (agree i)) in
    let clear : is_clear (drop n (bits_in (packed bits))) ≡ true = all_clear (drop n (bits_in (packed bits))) (λ i. get_or-drop n (bits_in (packed bits)) i false ∙ agree (n + i) ∙ get_or_past bits (n + i) false (omega (arith, len))) in
    rw (field_again k total (packed bits) rest long) (rw clear (ap (λ (x : List Bool). Ok (x, rest)) (sym front)))

pub bits_take : (n total : ℕ) (bytes : List ℕ) (x : List Bool × List ℕ) → IsBytes bytes → bits_at n total bytes ≡ Ok x → Takes bytes (packed x.0) x.1 × (length x.0 ≡ n)
unfolding bits_at
bits_take n total bytes x fits e =
    let k = packed_len n in
    let b = bind_ok (field_at k total bytes) (λ f. ranged total bytes (is_clear (drop n (bits_in f.0))) (take n (bits_in f.0), f.1)) x e in
    let f = b.0.0 in
    let t = field_takes k total bytes f b.0.1 fits b.1 in
    let g = ranged_ok total bytes (is_clear (drop n (bits_in f))) (take n (bits_in f), b.0.1) x b.2 in
    let wide : n ≤ 8 * k = omega arith in
    let len : length (take n (bits_in f)) ≡ n = omega (arith, length-take n (bits_in f), length-bits_in f, t.1) in
    let whole : packed (take n (bits_in f)) ≡ f =
    ap (λ (m : ℕ). bytes_of (packed_len m) (take n (bits_in f))) len
    ∙ ap (λ (m : ℕ). bytes_of m (take n (bits_in f))) (sym t.1)
    ∙ same_bytes (length f) (take n (bits_in f)) (bits_in f) (cut n (bits_in f) g.0)
    ∙ bytes_from f t.2 in
    subst (λ (y : List Bool × List ℕ). Takes bytes (packed y.0) y.1 × (length y.0 ≡ n)) g.1 (subst (λ (y : List ℕ). Takes bytes y b.0.1) (sym whole) t.0, len)

-- ---- a byte out of words

byte_small : (m : ℕ) (xs : List Bool) → byte (take m xs) < 2 ^ m
byte_small zero xs = omega arith
byte_small (suc m) xs = omega (arith, byte_step m xs, digit_small (get_or xs 0 false), byte_small m (drop 1 xs), pow-suc 2 m)

bit_of_byte : (xs : List Bool) (i : ℕ) → i < 8 → bit_at (byte (take 8 xs)) i ≡ digit (get_or xs i false)
bit_of_byte xs i h =
    let b = byte (take 8 xs) in
    sym (digit_test (bit_at b i) (bit_at-lt b i)) ∙ ap digit (sym (get_or-bits_from 8 b i h) ∙ shown 8 xs i h)

bit_of_shifted : (w s i : ℕ) → i < 8 → bit_at (w / 2 ^ s % 2 ^ 8) i ≡ bit_at w (s + i)
bit_of_shifted w s i h =
    let v = w / 2 ^ s in
    sym (bit_at_cat_low (v / 2 ^ 8) 8 (v % 2 ^ 8) i h) ∙ ap (λ (x : ℕ). bit_at x i) (shr_split v 8) ∙ ap (λ (x : ℕ). x % 2) (shr-shr w s i)

word_bit_at : (words : List ℕ) (j a b : ℕ) → a ≡ j / 64 → b ≡ j % 64 → bit_at (get_or words a 0) b ≡ word_bit words j
word_bit_at words j a b p q = rw (p, q) refl

-- byte k of words is that of bits 8k to 8k+7
pub word_byte : (words : List ℕ) (bits : List Bool) (k : ℕ) → ((j : ℕ) → word_bit words j ≡ digit (get_or bits j false)) → get_or words (k / 8) 0 / 2 ^ (8 * (k % 8)) % 2 ^ 8 ≡ byte (take 8 (drop (8 * k) bits))
word_byte words bits k each =
    let w = get_or words (k / 8) 0 in
    let s = 8 * (k % 8) in
    same_from_bits_below 8 (w / 2 ^ s % 2 ^ 8) (byte (take 8 (drop (8 * k) bits))) (omega arith) (byte_small 8 (drop (8 * k) bits)) (λ i h.
    bit_of_shifted w s i h ∙ word_bit_at words (8 * k + i) (k / 8) (s + i) (omega arith) (omega arith) ∙ each (8 * k + i)
    ∙ ap digit (sym (get_or-drop (8 * k) bits i false)) ∙ sym (bit_of_byte (drop (8 * k) bits) i h))
