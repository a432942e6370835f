-- The XOR of tags line by line, and run by run.
use Rattle.std.proofs.Common.{◌≡◌, ℕ, zero, suc, ◌<◌, ◌≤◌, ◌+◌, Bool, false, List, [], ◌∷◌, length, map, take, drop, get_or, refl, sym, ap, ◌∙◌, arith}
use Rattle.std.specs.Prelude.{bit_xor}
use Rattle.std.specs.Int.Bits.{xor_assoc, xor_zero_l, xor_zero_r}
use Rattle.dory_base.specs.declared.found.Place.{Place}
use Rattle.dory_base.specs.Sum.{xor_all}
use Rattle.dory_verify.specs.Tags.{line_tags}

-- one tag of a list
pub tag_more : (sum i : ℕ) (ts : List ℕ) → i < length ts → bit_xor (bit_xor sum (get_or ts i 0)) (xor_all (drop (suc i) ts)) ≡ bit_xor sum (xor_all (drop i ts))
tag_more sum i [] h = absurd (omega arith)
tag_more sum zero (t ∷ ts) h = xor_assoc sum t (xor_all ts)
tag_more sum (suc i) (t ∷ ts) h = tag_more sum i ts (omega arith)

tags_none : (f : Place → Bool → ℕ) (places : List Place) → line_tags f places [] ≡ []
tags_none f [] = refl
tags_none f (p ∷ places) = refl

-- one line
pub line_more : (f : Place → Bool → ℕ) (sum i : ℕ) (places : List Place) (bits : List Bool) (d : Place) → i < length places → length places ≤ length bits
    → bit_xor (bit_xor sum (f (get_or places i d) (get_or bits i false))) (xor_all (line_tags f (drop (suc i) places) (drop (suc i) bits))) ≡ bit_xor sum (xor_all (line_tags f (drop i places) (drop i bits)))
line_more f sum i [] bits d h n = absurd (omega arith)
line_more f sum i (p ∷ places) [] d h n = absurd (omega arith)
line_more f sum zero (p ∷ places) (b ∷ bits) d h n = xor_assoc sum (f p b) (xor_all (line_tags f places bits))
line_more f sum (suc i) (p ∷ places) (b ∷ bits) d h n = line_more f sum i places bits d (omega arith) (omega arith)

-- all lines are gone over
pub lines_end : (f : Place → Bool → ℕ) (sum i : ℕ) (places : List Place) (bits : List Bool) → i ≡ length places → bit_xor sum (xor_all (line_tags f (drop i places) (drop i bits))) ≡ sum
lines_end f sum zero [] bits e = xor_zero_r sum
lines_end f sum zero (p ∷ places) bits e = absurd (omega arith)
lines_end f sum (suc i) [] bits e = absurd (omega arith)
lines_end f sum (suc i) (p ∷ places) [] e = ap (λ (ts : List ℕ). bit_xor sum (xor_all ts)) (tags_none f (drop i places)) ∙ xor_zero_r sum
lines_end f sum (suc i) (p ∷ places) (b ∷ bits) e = lines_end f sum i places bits (omega arith)

-- a run in front of the rest
run_front : (f : Place → Bool → ℕ) (n : ℕ) (places : List Place) (bits : List Bool)
    → xor_all (line_tags f places bits) ≡ bit_xor (xor_all (line_tags f (take n places) bits)) (xor_all (line_tags f (drop n places) (drop n bits)))
run_front f zero places bits = sym (xor_zero_l (xor_all (line_tags f places bits)))
run_front f (suc n) [] bits = sym (xor_zero_l 0)
run_front f (suc n) (p ∷ places) [] = sym (ap (λ (ts : List ℕ). bit_xor 0 (xor_all ts)) (tags_none f (drop n places)) ∙ xor_zero_l 0)
run_front f (suc n) (p ∷ places) (b ∷ bits) = ap (bit_xor (f p b)) (run_front f n places bits) ∙ sym (xor_assoc (f p b) (xor_all (line_tags f (take n places) bits)) (xor_all (line_tags f (drop n places) (drop n bits))))

drop_twice : {A : Type 0} (m n k : ℕ) (xs : List A) → k ≡ m + n → drop n (drop m xs) ≡ drop k xs
drop_twice zero n k xs e = let f : n ≡ k = omega arith in ap (λ (j : ℕ). drop j xs) f
drop_twice (suc m) n zero xs e = absurd (omega arith)
drop_twice (suc m) zero (suc k) [] e = refl
drop_twice (suc m) (suc n) (suc k) [] e = refl
drop_twice (suc m) n (suc k) (x ∷ xs) e = drop_twice m n k xs (omega arith)

-- one run more
pub run_more : (f : Place → Bool → ℕ) (sum at next n : ℕ) (places : List Place) (bits : List Bool) → next ≡ at + n
    → bit_xor (bit_xor sum (xor_all (line_tags f (take n (drop at places)) (drop at bits)))) (xor_all (line_tags f (drop next places) (drop next bits))) ≡ bit_xor sum (xor_all (line_tags f (drop at places) (drop at bits)))
run_more f sum at next n places bits is =
    xor_assoc sum (xor_all (line_tags f (take n (drop at places)) (drop at bits))) (xor_all (line_tags f (drop next places) (drop next bits)))
    ∙ ap (bit_xor sum) (
    (λ i. bit_xor (xor_all (line_tags f (take n (drop at places)) (drop at bits))) (xor_all (line_tags f (same places i) (same' bits i))))
    ∙ sym (run_front f n (drop at places) (drop at bits))
    )
  where
    same : (xs : List Place) → drop next xs ≡ drop n (drop at xs)
    same xs = sym (drop_twice at n next xs is)

    same' : (xs : List Bool) → drop next xs ≡ drop n (drop at xs)
    same' xs = sym (drop_twice at n next xs is)

-- the tags of cells that are those of the lines
pub lanes : {C : Type 0} (f : Place → Bool → ℕ) (g : C → ℕ) (cells : List C) (places : List Place) (bits : List Bool) (c : C) (d : Place) → length cells ≡ length places → length places ≤ length bits
    → ((k : ℕ) → k < length places → g (get_or cells k c) ≡ f (get_or places k d) (get_or bits k false)) → map g cells ≡ line_tags f places bits
lanes f g [] [] bits c d e n each = refl
lanes f g [] (p ∷ places) bits c d e n each = absurd (omega arith)
lanes f g (x ∷ cells) [] bits c d e n each = absurd (omega arith)
lanes f g (x ∷ cells) (p ∷ places) [] c d e n each = absurd (omega arith)
lanes f g (x ∷ cells) (p ∷ places) (b ∷ bits) c d e n each = λ i. each 0 (omega arith) i ∷ lanes f g cells places bits c d (omega arith) (omega arith) (λ k h. each (suc k) (omega arith)) i
