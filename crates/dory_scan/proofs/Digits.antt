-- From the ones of words to the ones of bits.
use Rattle.std.proofs.Common.{◌≡◌, ℕ, zero, suc, ◌+◌, ◌-◌, ◌*◌, ◌/◌, ◌%◌, ◌^◌, ◌<◌, ◌≤◌, min, Bool, true, false, cond, ◌&&◌, not, eqb, List, [], ◌∷◌, length, get_or, bit_and, count_ones, refl, sym, ap, ◌∙◌, arith}
use mathlib.Core.Path.{ap₂}
use lib.Count.{ones_step, ones-ones}
use Rattle.std.proofs.lemmas.Bool.Decides.{nat_tests}
use lib.Pow.{shr_lt}
use Rattle.std.specs.Int.{bit_at}
use Rattle.std.proofs.lemmas.Nat.{and_le_l}
use Rattle.std.proofs.lemmas.Nat.Bits.{bit_at_lowest, bit_at-suc, bit_at_and}
use Rattle.std.proofs.lemmas.List.{get_or_past}
use Rattle.dory_kernel.specs.Parity.{common_ones}
use Rattle.dory_base.specs.Packed.{word_bit}
use Rattle.dory_base.specs.Sum.{parity}
use Rattle.dory_base.specs.Xor.{xor}

-- how many places are set in both
abbrev pub common_count : List Bool → List Bool → ℕ
common_count [] ss = 0
common_count (r ∷ rs) [] = 0
common_count (r ∷ rs) (s ∷ ss) = cond (s && r) 1 0 + common_count rs ss

-- f 0 + .. + f (n - 1)
pub total : ℕ → (ℕ → ℕ) → ℕ
total zero f = 0
total (suc n) f = f 0 + total n (λ i. f (suc i))

pub total_same : (n : ℕ) (f g : ℕ → ℕ) → ((i : ℕ) → i < n → f i ≡ g i) → total n f ≡ total n g
unfolding total
total_same zero f g e = refl
total_same (suc n) f g e = ap₂ (λ (x y : ℕ). x + y) (e 0 (omega arith)) (total_same n (λ i. f (suc i)) (λ i. g (suc i)) (λ i h. e (suc i) (omega arith)))

pub total-add : (m n : ℕ) (f : ℕ → ℕ) → total (m + n) f ≡ total m f + total n (λ i. f (m + i))
unfolding total
total-add zero n f =
    let e : 0 + n ≡ n = omega arith in
    let s : total n f ≡ total n (λ i. f (0 + i)) = total_same n f (λ i. f (0 + i)) (λ i h. let z : i ≡ 0 + i = omega arith in ap f z) in
    ap (λ (x : ℕ). total x f) e ∙ s ∙ (let z : total n (λ i. f (0 + i)) ≡ 0 + total n (λ i. f (0 + i)) = omega arith in z)
total-add (suc m) n f =
    let e : suc m + n ≡ suc (m + n) = omega arith in
    let ih : total (m + n) (λ i. f (suc i)) ≡ total m (λ i. f (suc i)) + total n (λ i. f (suc (m + i))) = total-add m n (λ i. f (suc i)) in
    let s : total n (λ i. f (suc (m + i))) ≡ total n (λ i. f (suc m + i)) = total_same n (λ i. f (suc (m + i))) (λ i. f (suc m + i)) (λ i h. let z : suc (m + i) ≡ suc m + i = omega arith in ap f z) in
    ap (λ (x : ℕ). total x f) e ∙ (let t : f 0 + total (m + n) (λ i. f (suc i)) ≡ f 0 + total m (λ i. f (suc i)) + total n (λ i. f (suc m + i)) = omega (arith, ih, s) in t)

pub total_zero : (n : ℕ) (f : ℕ → ℕ) → ((i : ℕ) → f i ≡ 0) → total n f ≡ 0
unfolding total
total_zero zero f e = refl
total_zero (suc n) f e = ap₂ (λ (x y : ℕ). x + y) (e 0) (total_zero n (λ i. f (suc i)) (λ i. e (suc i)))

half_fits : (k n : ℕ) → n < 2 ^ suc k → n / 2 < 2 ^ k
half_fits k n h = let e : suc k ≡ k + 1 = omega arith in shr_lt k 1 (rw e at h)

-- the ones of a number of k bits
pub ones_are : (k n : ℕ) → n < 2 ^ k → count_ones n ≡ total k (λ i. bit_at n i)
unfolding total
ones_are zero n h = let z : n ≡ 0 = omega arith in ap count_ones z ∙ ones-ones 0
ones_are (suc k) n h =
    ones_step n
    ∙ ap₂ (λ (x y : ℕ). x + y) (sym (bit_at_lowest n)) (ones_are k (n / 2) (half_fits k n h) ∙ total_same k (λ i. bit_at (n / 2) i) (λ i. bit_at n (suc i)) (λ i near. sym (bit_at-suc n i)))

first_word : (u : ℕ) (us : List ℕ) (i : ℕ) → i < 64 → word_bit (u ∷ us) i ≡ bit_at u i
first_word u us i h = let q : i / 64 ≡ 0 = omega arith in let r : i % 64 ≡ i = omega arith in ap₂ (λ (a b : ℕ). bit_at (get_or (u ∷ us) a 0) b) q r

later_word : (u : ℕ) (us : List ℕ) (i : ℕ) → word_bit (u ∷ us) (64 + i) ≡ word_bit us i
later_word u us i = let q : (64 + i) / 64 ≡ suc (i / 64) = omega arith in let r : (64 + i) % 64 ≡ i % 64 = omega arith in ap₂ (λ (a b : ℕ). bit_at (get_or (u ∷ us) a 0) b) q r

-- the ones of the AND of words, as a sum over bits
pub common_ones_are : (us vs : List ℕ) → length us ≡ length vs → ((i : ℕ) → get_or us i 0 < 2 ^ 64)
    → common_ones us vs ≡ total (64 * length us) (λ j. min (word_bit us j) (word_bit vs j))
unfolding total
common_ones_are [] [] e fits = refl
common_ones_are [] (v ∷ vs) e fits = absurd (omega arith)
common_ones_are (u ∷ us) [] e fits = absurd (omega arith)
common_ones_are (u ∷ us) (v ∷ vs) e fits =
    let same : length us ≡ length vs = omega arith in
    let small : bit_and u v < 2 ^ 64 = omega (arith, and_le_l u v, fits 0) in
    let n : 64 * suc (length us) ≡ 64 + 64 * length us = omega arith in
    ap₂ (λ (x y : ℕ). x + y)
    (ones_are 64 (bit_and u v) small
    ∙ total_same 64 (λ i. bit_at (bit_and u v) i) (λ j. min (word_bit (u ∷ us) j) (word_bit (v ∷ vs) j)) (λ i near. bit_at_and u v i ∙ sym (ap₂ min (first_word u us i near) (first_word v vs i near))))
    (common_ones_are us vs same (λ i. fits (suc i))
    ∙ total_same (64 * length us) (λ j. min (word_bit us j) (word_bit vs j)) (λ j. min (word_bit (u ∷ us) (64 + j)) (word_bit (v ∷ vs) (64 + j))) (λ i near. sym (ap₂ min (later_word u us i) (later_word v vs i))))
    ∙ sym (ap (λ (x : ℕ). total x (λ j. min (word_bit (u ∷ us) j) (word_bit (v ∷ vs) j))) n ∙ total-add 64 (64 * length us) (λ j. min (word_bit (u ∷ us) j) (word_bit (v ∷ vs) j)))

both_digit : (r s : Bool) → min (cond r 1 0) (cond s 1 0) ≡ cond (s && r) 1 0
both_digit true true = refl
both_digit true false = refl
both_digit false true = refl
both_digit false false = refl

-- the sum over two lists of bits
common_is : (rs ss : List Bool) → length rs ≡ length ss → total (length rs) (λ j. min (cond (get_or rs j false) 1 0) (cond (get_or ss j false) 1 0)) ≡ common_count rs ss
unfolding total
common_is [] [] e = refl
common_is [] (s ∷ ss) e = absurd (omega arith)
common_is (r ∷ rs) [] e = absurd (omega arith)
common_is (r ∷ rs) (s ∷ ss) e =
    let same : length rs ≡ length ss = omega arith in
    ap₂ (λ (x y : ℕ). x + y) (both_digit r s) (common_is rs ss same)

pub words_common : (us vs : List ℕ) (rs ss : List Bool) → length us ≡ length vs → length rs ≡ length ss → length rs ≤ 64 * length us
    → ((i : ℕ) → get_or us i 0 < 2 ^ 64) → ((j : ℕ) → word_bit us j ≡ cond (get_or rs j false) 1 0) → ((j : ℕ) → word_bit vs j ≡ cond (get_or ss j false) 1 0)
    → common_ones us vs ≡ common_count rs ss
words_common us vs rs ss e f room fits p q =
    let n : 64 * length us ≡ length rs + (64 * length us - length rs) = omega arith in
    common_ones_are us vs e fits
    ∙ total_same (64 * length us) (λ j. min (word_bit us j) (word_bit vs j)) (λ j. min (cond (get_or rs j false) 1 0) (cond (get_or ss j false) 1 0)) (λ i near. ap₂ min (p i) (q i))
    ∙ ap (λ (x : ℕ). total x (λ j. min (cond (get_or rs j false) 1 0) (cond (get_or ss j false) 1 0))) n
    ∙ total-add (length rs) (64 * length us - length rs) (λ j. min (cond (get_or rs j false) 1 0) (cond (get_or ss j false) 1 0))
    ∙ ap₂ (λ (x y : ℕ). x + y) (common_is rs ss f)
    (total_zero (64 * length us - length rs) (λ i. min (cond (get_or rs (length rs + i) false) 1 0) (cond (get_or ss (length rs + i) false) 1 0)) (λ i.
    let a : length rs ≤ length rs + i = omega arith in
    let b : length ss ≤ length rs + i = omega arith in
    ap₂ (λ (r s : Bool). min (cond r 1 0) (cond s 1 0)) (get_or_past rs (length rs + i) false a) (get_or_past ss (length rs + i) false b)))
    ∙ (let z : common_count rs ss + 0 ≡ common_count rs ss = omega arith in z)

odd_next : (n : ℕ) → not (eqb (n % 2) 1) ≡ eqb ((1 + n) % 2) 1
odd_next n = grind (arith, nat_tests)

odd_more : (b : Bool) (n : ℕ) → xor b (eqb (n % 2) 1) ≡ eqb ((cond b 1 0 + n) % 2) 1
odd_more true n = odd_next n
odd_more false n = let e : n ≡ 0 + n = omega arith in ap (λ (m : ℕ). eqb (m % 2) 1) e

-- the parity of what is set in both
pub parity_is : (rs ss : List Bool) → parity ss rs ≡ eqb (common_count rs ss % 2) 1
parity_is [] [] = refl
parity_is [] (s ∷ ss) = refl
parity_is (r ∷ rs) [] = refl
parity_is (r ∷ rs) (s ∷ ss) = ap (xor (s && r)) (parity_is rs ss) ∙ odd_more (s && r) (common_count rs ss)
