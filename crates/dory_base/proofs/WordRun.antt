-- The array that a run is lowered into holds a word.
use Rattle.std.proofs.Common.{◌≡◌, ℕ, suc, ◌<◌, ◌≤◌, ◌+◌, ◌-◌, min, Bool, true, false, not, cond, ltb, Some, None, inl, inr, List, [], ◌∷◌, ◌++◌, length, get_or, take, map, set, replicate, refl, ap, sym, ◌∙◌, arith, subst}
use Rattle.std.specs.List.{AllPass, position, position_or_len}
use Rattle.std.specs.Char.{to_ascii_lowercase, is_ascii_uppercase}
use Rattle.std.proofs.lemmas.Bool.{cases_lt}
use Rattle.std.proofs.lemmas.Bool.Decides.{nat_tests}
use Rattle.std.proofs.lemmas.List.{append_assoc, length-append, length-take, length-map, length-replicate, set_at, map_more, take_min, take_at}
use Rattle.std.proofs.lemmas.List.Elements.{All-map, All-take, All-weaker}
use Rattle.std.proofs.lemmas.List.Sums.{fails_before_first}
use Rattle.dory_base.specs.Words.{is_word_byte, is_separator, word_of, IsWord, IsKept}

-- ---- lowering

lowered_is_word_byte : (b : ℕ) → is_word_byte b ≡ true → is_word_byte (to_ascii_lowercase b) ≡ true
lowered_is_word_byte b h = grind (arith, nat_tests)

lowered_is_no_capital : (b : ℕ) → not (is_ascii_uppercase (to_ascii_lowercase b)) ≡ true
lowered_is_no_capital b = grind (arith, nat_tests)

-- a run that isn't empty gives a word
pub word_of_is_word : (run : List ℕ) → 1 ≤ length run → AllPass is_word_byte run → IsWord (word_of run)
word_of_is_word run some all = record {
  some = omega (arith, length-map (take 64 run) to_ascii_lowercase, length-take 64 run);
  few = omega (arith, length-map (take 64 run) to_ascii_lowercase, length-take 64 run);
  word_bytes =
      All-map (λ b. is_word_byte b ≡ true) to_ascii_lowercase (take 64 run)
      (All-weaker (λ b. is_word_byte b ≡ true) (λ b. is_word_byte (to_ascii_lowercase b) ≡ true) lowered_is_word_byte (take 64 run)
      (All-take (λ b. is_word_byte b ≡ true) 64 run all));
  lowered =
      All-map (λ b. not (is_ascii_uppercase b) ≡ true) to_ascii_lowercase (take 64 run)
      (All-weaker (λ b. is_word_byte b ≡ true) (λ b. not (is_ascii_uppercase (to_ascii_lowercase b)) ≡ true) (λ b h. lowered_is_no_capital b) (take 64 run)
      (All-take (λ b. is_word_byte b ≡ true) 64 run all));
}

-- ---- the loop

-- one more byte is lowered
pub lowered_more : (run : List ℕ) (i : ℕ) → i < length run → i < 64
    → set (map to_ascii_lowercase (take i run) ++ replicate (64 - i) 0) i (to_ascii_lowercase (get_or run i 0))
    ≡ map to_ascii_lowercase (take (i + 1) run) ++ replicate (64 - (i + 1)) 0
lowered_more run i h k =
    let front : List ℕ = map to_ascii_lowercase (take i run) in
    let byte : ℕ = to_ascii_lowercase (get_or run i 0) in
    let left : List ℕ = replicate (64 - (i + 1)) 0 in
    let e : 64 - i ≡ suc (64 - (i + 1)) = omega arith in
    let l : length front ≡ i = omega (arith, length-map (take i run) to_ascii_lowercase, length-take i run) in
    ap (λ (n : ℕ). set (front ++ replicate n 0) i byte) e
    ∙ set_at front 0 left byte i l
    ∙ sym (append_assoc front (byte ∷ []) left)
    ∙ ap (λ (xs : List ℕ). xs ++ left) (sym (map_more to_ascii_lowercase run i 0 h))

-- the front of the array, when as many bytes are lowered as a word has
pub front_is : (run bytes : List ℕ) (len : ℕ) → len ≡ min 64 (length run) → bytes ≡ map to_ascii_lowercase (take len run) ++ replicate (64 - len) 0
    → take len bytes ≡ word_of run
front_is run bytes len e is =
    ap (take len) is
    ∙ take_at (map to_ascii_lowercase (take len run)) (replicate (64 - len) 0) len (omega (arith, length-map (take len run) to_ascii_lowercase, length-take len run))
    ∙ ap (λ (n : ℕ). map to_ascii_lowercase (take n run)) e
    ∙ ap (map to_ascii_lowercase) (take_min 64 run)

pub is_kept : (run bytes : List ℕ) (len : ℕ) → 1 ≤ length run → AllPass is_word_byte run → len ≡ min 64 (length run)
    → bytes ≡ map to_ascii_lowercase (take len run) ++ replicate (64 - len) 0 → IsKept bytes len
is_kept run bytes len some all e is =
    let front = map to_ascii_lowercase (take len run) in
    let l : length front ≡ len = omega (arith, length-map (take len run) to_ascii_lowercase, length-take len run) in
    record {
      room = ap length is ∙ omega (arith, length-append front (replicate (64 - len) 0), length-replicate {A = ℕ} (64 - len) 0, l);
      fits = omega arith;
      padded =
          ap (λ (xs : List ℕ). xs ++ replicate (64 - len) 0)
          (ap (take len) is ∙ take_at front (replicate (64 - len) 0) len l)
          ∙ sym is;
      word = subst IsWord (sym (front_is run bytes len e is)) (word_of_is_word run some all);
    }

-- ---- bytes without a separator

not_false : (b : Bool) → not b ≡ false → b ≡ true
not_false true e = refl
not_false false e = absurd (cc)

passes_up_to : (n : ℕ) (bytes : List ℕ) → n ≡ position_or_len is_separator bytes → length bytes ≤ n → AllPass is_word_byte bytes
passes_up_to n bytes e h = λ k d near. not_false (is_word_byte (get_or bytes k d)) (fails_before_first is_separator bytes k d (omega arith))

none_by_test : (n : ℕ) (bytes : List ℕ) → n ≡ position_or_len is_separator bytes → cond (ltb n (length bytes)) (Some n) None ≡ None → AllPass is_word_byte bytes
none_by_test n bytes e is =
    elim (cases_lt n (length bytes)) [
      | inl h ↦ absurd (let k : ltb n (length bytes) ≡ true = grind (arith, nat_tests) in let x : Some n ≡ None = ap (λ (b : Bool). cond b (Some n) None) (sym k) ∙ is in cc)
      | inr h ↦ passes_up_to n bytes e h
    ]

-- each byte is a word byte where no separator is found
pub none_is_run : (bytes : List ℕ) → position is_separator bytes ≡ None → AllPass is_word_byte bytes
none_is_run bytes is = none_by_test (position_or_len is_separator bytes) bytes refl is
