-- The ones of an XOR, of an AND, and of two lists word by word.
use Rattle.std.proofs.Common.{◌≡◌, ℕ, ◌+◌, ◌-◌, ◌/◌, ◌%◌, ◌<◌, ◌≤◌, List, [], ◌∷◌, ◌++◌, length, take, drop, get_or, bit_and, bit_xor, count_ones, refl, sym, ap, ◌∙◌, arith}
use Rattle.std.proofs.lemmas.Nat.{xor_shr}
use Rattle.std.proofs.lemmas.Nat.Bits.{bit_at_lowest, bit_at_xor}
use Rattle.std.proofs.lemmas.List.{take_more, length-take, take-append-drop, take_rest}
use Rattle.std.proofs.lemmas.Simd.{length-chunk, length-zip2}
use Rattle.std.specs.Simd.Lanes.{zip2, chunk, fold_l}
use Rattle.std.proofs.Math.Seq.{take-add}
use lib.Count.{ones_step, ones-ones}
use lib.Arith.{bin_ind}
use mathlib.Core.Path.{ap₂}
use Rattle.dory_kernel.specs.Parity.{common_ones}

pub lowest_xor : (a b : ℕ) → bit_xor a b % 2 ≡ (a % 2 + b % 2) % 2
lowest_xor a b =
    sym (bit_at_lowest (bit_xor a b)) ∙ bit_at_xor a b 0 ∙ ap₂ (λ (x y : ℕ). (x + y) % 2) (bit_at_lowest a) (bit_at_lowest b)

-- the digits below and above, put together
parity_step : (x n b p o on ob : ℕ) → x ≡ p + o → p ≡ (n % 2 + b % 2) % 2 → o % 2 ≡ (on + ob) % 2
    → x % 2 ≡ ((n % 2 + on) + (b % 2 + ob)) % 2
parity_step x n b p o on ob e f g = omega arith

-- the parity of an XOR is that of both together
pub ones_xor : (a b : ℕ) → count_ones (bit_xor a b) % 2 ≡ (count_ones a + count_ones b) % 2
ones_xor a =
    bin_ind (λ (n : ℕ). (b : ℕ) → count_ones (bit_xor n b) % 2 ≡ (count_ones n + count_ones b) % 2)
    (λ b. let z : count_ones 0 ≡ 0 = ones-ones 0 in omega arith)
    (λ n ih b.
    rw (ones_step n, ones_step b)
    (parity_step (count_ones (bit_xor n b)) n b (bit_xor n b % 2) (count_ones (bit_xor (n / 2) (b / 2))) (count_ones (n / 2)) (count_ones (b / 2))
    (ones_step (bit_xor n b) ∙ ap (λ (x : ℕ). bit_xor n b % 2 + count_ones x) (xor_shr n b 1))
    (lowest_xor n b) (ih (b / 2))))
    a

add_zero_right : (a b : ℕ) → a + (b + 0) ≡ a + b
add_zero_right a b = omega arith

pub common_ones-append : (xs ys us vs : List ℕ) → length xs ≡ length ys → common_ones (xs ++ us) (ys ++ vs) ≡ common_ones xs ys + common_ones us vs
common_ones-append [] [] us vs h = omega arith
common_ones-append [] (y ∷ ys) us vs h = absurd (omega arith)
common_ones-append (x ∷ xs) [] us vs h = absurd (omega arith)
common_ones-append (x ∷ xs) (y ∷ ys) us vs h =
    let same : length xs ≡ length ys = omega arith in
    omega (arith, common_ones-append xs ys us vs same)

pub common_ones-take_more : (xs ys : List ℕ) (i : ℕ) → i < length xs → i < length ys
    → common_ones (take (i + 1) xs) (take (i + 1) ys) ≡ common_ones (take i xs) (take i ys) + count_ones (bit_and (get_or xs i 0) (get_or ys i 0))
common_ones-take_more xs ys i h k =
    let same : length (take i xs) ≡ length (take i ys) = simp length-take (omega arith) in
    rw (take_more xs i 0 h, take_more ys i 0 k)
    (common_ones-append (take i xs) (take i ys) (get_or xs i 0 ∷ []) (get_or ys i 0 ∷ []) same ∙ add_zero_right (common_ones (take i xs) (take i ys)) (count_ones (bit_and (get_or xs i 0) (get_or ys i 0))))

-- n more of each
pub common_ones-take_chunk : (xs ys : List ℕ) (i n : ℕ) → i ≤ length xs → i ≤ length ys
    → common_ones (take (i + n) xs) (take (i + n) ys) ≡ common_ones (take i xs) (take i ys) + common_ones (take n (drop i xs)) (take n (drop i ys))
common_ones-take_chunk xs ys i n h k =
    let same : length (take i xs) ≡ length (take i ys) = simp length-take (omega arith) in
    rw (take-add i n xs, take-add i n ys) (common_ones-append (take i xs) (take i ys) (take n (drop i xs)) (take n (drop i ys)) same)

-- the ones of some words
abbrev pub ones_all : List ℕ → ℕ
ones_all [] = 0
ones_all (x ∷ xs) = count_ones x + ones_all xs

pub ones_all-and : (xs ys : List ℕ) → ones_all (zip2 bit_and xs ys) ≡ common_ones xs ys
ones_all-and [] ys = refl
ones_all-and (x ∷ xs) [] = refl
ones_all-and (x ∷ xs) (y ∷ ys) = omega (arith, ones_all-and xs ys)

pub ones_all-xor : (xs ys : List ℕ) → length xs ≡ length ys → ones_all (zip2 bit_xor xs ys) % 2 ≡ (ones_all xs + ones_all ys) % 2
ones_all-xor [] [] h = refl
ones_all-xor [] (y ∷ ys) h = absurd (omega arith)
ones_all-xor (x ∷ xs) [] h = absurd (omega arith)
ones_all-xor (x ∷ xs) (y ∷ ys) h =
    let same : length xs ≡ length ys = omega arith in
    omega (arith, ones_all-xor xs ys same, ones_xor x y)

-- one vector more
pub ones_all_more : (all xs ys : List ℕ) (i n : ℕ) → length all ≡ n → i + n ≤ length xs → i + n ≤ length ys
    → ones_all all % 2 ≡ common_ones (take i xs) (take i ys) % 2
    → ones_all (zip2 bit_xor all (zip2 bit_and (chunk i n xs) (chunk i n ys))) % 2 ≡ common_ones (take (i + n) xs) (take (i + n) ys) % 2
ones_all_more all xs ys i n long h k e =
    let a : length (chunk i n xs) ≡ n = length-chunk i n xs h in
    let b : length (chunk i n ys) ≡ n = length-chunk i n ys k in
    let both : length (zip2 bit_and (chunk i n xs) (chunk i n ys)) ≡ n = length-zip2 bit_and (chunk i n xs) (chunk i n ys) (a ∙ sym b) ∙ a in
    let l1 : i ≤ length xs = omega arith in
    let l2 : i ≤ length ys = omega arith in
    omega (arith, ones_all-xor all (zip2 bit_and (chunk i n xs) (chunk i n ys)) (long ∙ sym both), ones_all-and (chunk i n xs) (chunk i n ys), common_ones-take_chunk xs ys i n l1 l2)

-- the ones of the XOR of some words
pub ones_fold-xor : (a : ℕ) (xs : List ℕ) → count_ones (fold_l bit_xor a xs) % 2 ≡ (count_ones a + ones_all xs) % 2
ones_fold-xor a [] = omega arith
ones_fold-xor a (x ∷ xs) = omega (arith, ones_fold-xor (bit_xor a x) xs, ones_xor a x)

-- the vectors, and the words after them
pub ones_rest : (xs ys : List ℕ) (i r s : ℕ) → i ≤ length xs → i ≤ length ys
    → s % 2 ≡ common_ones (take i xs) (take i ys) % 2 → r % 2 ≡ (s + common_ones (drop i xs) (drop i ys)) % 2
    → r % 2 ≡ common_ones xs ys % 2
ones_rest xs ys i r s h k e f =
    let same : length (take i xs) ≡ length (take i ys) = simp length-take (omega arith) in
    let all : common_ones xs ys ≡ common_ones (take i xs) (take i ys) + common_ones (drop i xs) (drop i ys) =
    ap₂ common_ones (sym (take-append-drop i xs)) (sym (take-append-drop i ys)) ∙ common_ones-append (take i xs) (take i ys) (drop i xs) (drop i ys) same in
    omega arith

-- the same, after a loop over whole vectors
pub lanes_done : (xs ys all : List ℕ) (i r v : ℕ) → i ≤ length xs → length xs ≡ length ys
    → ones_all all % 2 ≡ common_ones (take i xs) (take i ys) % 2 → v ≡ fold_l bit_xor 0 all
    → count_ones r % 2 ≡ (count_ones v + common_ones (take (length xs - i) (drop i xs)) (take (length ys - i) (drop i ys))) % 2
    → count_ones r % 2 ≡ common_ones xs ys % 2
lanes_done xs ys all i r v h same e is f =
    let k : i ≤ length ys = omega arith in
    let z : count_ones 0 ≡ 0 = ones-ones 0 in
    let g : count_ones (fold_l bit_xor 0 all) % 2 ≡ (count_ones 0 + ones_all all) % 2 = ones_fold-xor 0 all in
    let s : count_ones v % 2 ≡ common_ones (take i xs) (take i ys) % 2 = rw is (omega arith) in
    ones_rest xs ys i (count_ones r) (count_ones v) h k s (rw (take_rest xs i, take_rest ys i) at f)
