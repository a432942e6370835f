-- What holds of each member of a list.
use Rattle.std.proofs.Common.{◌≡◌, ℕ, zero, suc, ◌<◌, ◌≤◌, ◌+◌, Bool, true, false, List, [], ◌∷◌, ◌++◌, length, take, get_or, set, Option, Some, None, position, find, cond, ltb, arith, ap, ◌∙◌, refl, sym, ltb-false}
use Rattle.std.specs.List.{AllByRecursion, range_with_len, position_or_len}
use Rattle.std.proofs.lemmas.List.Sums.{position_or_len_is, fails_before_first}
use Rattle.std.proofs.lemmas.List.FromFn.{length-range_with_len, get_or-range_with_len}
use Rattle.std.proofs.lemmas.Bool.{cond_below, cond_above}

pub all_at : {X : Type 0} (P : X → Type 0) (xs : List X) (i : ℕ) (d : X) → i < length xs → AllByRecursion P xs → P (get_or xs i d)
all_at P [] i d h all = absurd (omega arith)
all_at P (x ∷ xs) zero d h all = all.0
all_at P (x ∷ xs) (suc i) d h all = all_at P xs i d (omega arith) all.1

pub all_more : {X : Type 0} (P : X → Type 0) (xs : List X) (y : X) → AllByRecursion P xs → P y → AllByRecursion P (xs ++ y ∷ [])
all_more P [] y all h = (h, tt)
all_more P (x ∷ xs) y all h = (all.0, all_more P xs y all.1 h)

pub all_take : {X : Type 0} (P : X → Type 0) (n : ℕ) (xs : List X) → AllByRecursion P xs → AllByRecursion P (take n xs)
all_take P zero xs all = tt
all_take P (suc n) [] all = tt
all_take P (suc n) (x ∷ xs) all = (all.0, all_take P n xs all.1)

pub all_set : {X : Type 0} (P : X → Type 0) (xs : List X) (i : ℕ) (y : X) → AllByRecursion P xs → P y → AllByRecursion P (set xs i y)
all_set P [] i y all h = tt
all_set P (x ∷ xs) zero y all h = (h, all.1)
all_set P (x ∷ xs) (suc i) y all h = (all.0, all_set P xs i y all.1 h)

pub all_both : {X : Type 0} (P Q R : X → Type 0) → ((x : X) → P x → Q x → R x) → (xs : List X) → AllByRecursion P xs → AllByRecursion Q xs → AllByRecursion R xs
all_both P Q R f [] p q = tt
all_both P Q R f (x ∷ xs) p q = (f x p.0 q.0, all_both P Q R f xs p.1 q.1)

-- ---- the first that passes

from_zero : (k : ℕ) → 0 + k ≡ k
from_zero k = omega arith

first_place : (p : ℕ → Bool) (n i : ℕ) → i ≤ n → ((k : ℕ) → k < i → p k ≡ false) → (i < n → p i ≡ true) → position_or_len p (range_with_len 0 n) ≡ i
first_place p n i h before at =
    position_or_len_is p (range_with_len 0 n) i 0 (omega (arith, length-range_with_len 0 n))
    (λ k low. ap p (get_or-range_with_len 0 n k 0 (omega arith) ∙ from_zero k) ∙ before k low)
    (λ low. let l : i < n = omega (arith, length-range_with_len 0 n) in ap p (get_or-range_with_len 0 n i 0 l ∙ from_zero i) ∙ at l)

-- the first number that passes
pub first_number : (p : ℕ → Bool) (n i : ℕ) → i < n → ((k : ℕ) → k < i → p k ≡ false) → p i ≡ true → Some i ≡ position p (range_with_len 0 n)
first_number p n i h before at =
    let e : position_or_len p (range_with_len 0 n) ≡ i = first_place p n i (omega arith) before (λ low. at) in
    let low : position_or_len p (range_with_len 0 n) < length (range_with_len 0 n) = omega (arith, e, length-range_with_len 0 n) in
    ap Some (sym e) ∙ cond_below (position_or_len p (range_with_len 0 n)) (length (range_with_len 0 n)) (Some (position_or_len p (range_with_len 0 n))) None low

-- no number passes
pub no_number : (p : ℕ → Bool) (n : ℕ) → ((k : ℕ) → k < n → p k ≡ false) → None ≡ position p (range_with_len 0 n)
no_number p n before =
    let e : position_or_len p (range_with_len 0 n) ≡ n = first_place p n n (omega arith) before (λ low. absurd (omega arith)) in
    let high : length (range_with_len 0 n) ≤ position_or_len p (range_with_len 0 n) = omega (arith, e, length-range_with_len 0 n) in
    cond_above (position_or_len p (range_with_len 0 n)) (length (range_with_len 0 n)) (Some (position_or_len p (range_with_len 0 n))) None None high refl

some_none : (n : ℕ) → ◌≡◌ {A = Option ℕ} (Some n) None → ⊥
some_none n e = cc

go_none : {X : Type 0} (p : X → Bool) (xs : List X) (k : ℕ) (d : X) → k < length xs → (b : Bool) → ltb (position_or_len p xs) (length xs) ≡ b → ◌≡◌ {A = Option ℕ} (cond b (Some (position_or_len p xs)) None) None → p (get_or xs k d) ≡ false
go_none p xs k d h true is at = absurd (some_none (position_or_len p xs) at)
go_none p xs k d h false is at = let past : length xs ≤ position_or_len p xs = ltb-false (position_or_len p xs) (length xs) is in fails_before_first p xs k d (omega arith)

-- where there is no first place, each member fails
pub none_passes : {X : Type 0} (p : X → Bool) (xs : List X) → position p xs ≡ None → (k : ℕ) (d : X) → k < length xs → p (get_or xs k d) ≡ false
none_passes p xs none k d h =
    go_none p xs k d h (ltb (position_or_len p xs) (length xs)) refl none

pub find_none : {X : Type 0} (p : X → Bool) (xs : List X) → ((k : ℕ) (d : X) → k < length xs → p (get_or xs k d) ≡ false) → find p xs ≡ None
find_none p [] h = refl
find_none p (x ∷ xs) h = ap (λ (b : Bool). cond b (Some x) (find p xs)) (h 0 x (omega arith)) ∙ find_none p xs (λ k d low. h (suc k) d (omega arith))

pub find_first : {X : Type 0} (p : X → Bool) (xs : List X) (at : ℕ) (d : X) → at < length xs → p (get_or xs at d) ≡ true → ((k : ℕ) → k < at → p (get_or xs k d) ≡ false) → find p xs ≡ Some (get_or xs at d)
find_first p [] at d h hit before = absurd (omega arith)
find_first p (x ∷ xs) zero d h hit before = ap (λ (b : Bool). cond b (Some x) (find p xs)) hit
find_first p (x ∷ xs) (suc at) d h hit before = ap (λ (b : Bool). cond b (Some x) (find p xs)) (before 0 (omega arith)) ∙ find_first p xs at d (omega arith) hit (λ k low. before (suc k) (omega arith))
