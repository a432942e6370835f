-- Numbers that rise strictly are the rising order of the numbers that they hold.
use Rattle.std.proofs.Common.{◌≡◌, ℕ, zero, suc, ◌+◌, ◌<◌, ◌≤◌, List, [], ◌∷◌, map, length, get_or, refl, sym, ap, subst, ◌∙◌, arith, inl, inr}
use Rattle.std.specs.Prelude.{◌⊎◌, nat_lt, Bool, true, false, if◌then◌else◌, Contains}
use Rattle.std.specs.List.Sorted.{IsStrictlyIncreasing}
use Rattle.std.proofs.lemmas.Bool.{ltb-true, ltb-false}
use Rattle.std.proofs.lemmas.List.Kept.{AllPairs-from_increasing}
use Rattle.dory_base.specs.declared.ids.DocId.{DocId}
use Rattle.dory_verify.specs.Answer.{IsRising, numbers}
use Rattle.dory_member.specs.Rising.{docs_of, put, rising_of}

-- a number is one of a list
In : List ℕ → ℕ → Type 0
In [] n = ⊥
In (x ∷ xs) n = (n ≡ x) ⊎ In xs n

-- each number is above this one, and below those after it
Rises : List ℕ → Type 0
Rises [] = Unit {0}
Rises (x ∷ xs) = ((n : ℕ) → In xs n → x < n) × Rises xs

in_at : (xs : List ℕ) (n k : ℕ) → k < length xs → get_or xs k n ≡ n → In xs n
unfolding In
in_at [] n k low is = absurd (omega arith)
in_at (x ∷ xs) n zero low is = inl (sym is)
in_at (x ∷ xs) n (suc k) low is = inr (in_at xs n k (omega arith) is)

in_list : (xs : List ℕ) (n : ℕ) → Contains xs n → In xs n
in_list xs n c = in_at xs n c.0 c.1 c.2

contains : (xs : List ℕ) (n : ℕ) → In xs n → Contains xs n
unfolding In
contains [] n h = absurd h
contains (x ∷ xs) n (inl e) = (0, omega arith, sym e)
contains (x ∷ xs) n (inr h) = let c = contains xs n h in (suc c.0, omega (arith, c.1), c.2)

at_some : (xs : List ℕ) (n d k : ℕ) → k < length xs → get_or xs k n ≡ n → get_or xs k d ≡ n
at_some [] n d k low is = absurd (omega arith)
at_some (x ∷ xs) n d zero low is = is
at_some (x ∷ xs) n d (suc k) low is = at_some xs n d k (omega arith) is

tail_rises : (x : ℕ) (xs : List ℕ) → IsStrictlyIncreasing (x ∷ xs) → IsStrictlyIncreasing xs
tail_rises x xs h k low =
    let e : suc k + 1 ≡ suc (k + 1) = omega arith in
    subst (λ (n : ℕ). get_or xs k 0 < get_or (x ∷ xs) n 0) e (h (suc k) (omega arith))

above : (x : ℕ) (xs : List ℕ) → IsStrictlyIncreasing (x ∷ xs) → (n : ℕ) → In xs n → x < n
above x xs h n i =
    let c = contains xs n i in
    let pairs = AllPairs-from_increasing (x ∷ xs) h 0 (suc c.0) 0 (omega arith) (omega (arith, c.1)) in
    subst (λ (m : ℕ). x < m) (at_some xs n 0 c.0 c.1 c.2) pairs

rises : (xs : List ℕ) → IsStrictlyIncreasing xs → Rises xs
unfolding Rises
rises [] h = tt
rises (x ∷ xs) h = (above x xs h, rises xs (tail_rises x xs h))

same_first : (x y : ℕ) (xs ys : List ℕ) → Rises (x ∷ xs) → Rises (y ∷ ys) → In (y ∷ ys) x → In (x ∷ xs) y → x ≡ y
unfolding In Rises
same_first x y xs ys p q (inl e) j = e
same_first x y xs ys p q (inr i) (inl e) = sym e
same_first x y xs ys p q (inr i) (inr j) = absurd (omega (arith, p.0 y j, q.0 x i))

other : (x y n : ℕ) (xs ys : List ℕ) → x ≡ y → Rises (x ∷ xs) → In xs n → In (y ∷ ys) n → In ys n
unfolding In Rises
other x y n xs ys e p i (inl f) = absurd (omega (arith, p.0 n i, e, f))
other x y n xs ys e p i (inr h) = h

first_in : (x : ℕ) (xs : List ℕ) → In (x ∷ xs) x
unfolding In
first_in x xs = inl refl

later_in : (x n : ℕ) (xs : List ℕ) → In xs n → In (x ∷ xs) n
unfolding In
later_in x n xs h = inr h

none : (n : ℕ) → In [] n → ⊥
unfolding In
none n h = h

rest : (x : ℕ) (xs : List ℕ) → Rises (x ∷ xs) → Rises xs
unfolding Rises
rest x xs h = h.1

-- two rising lists with the same numbers are one
one_list : (xs ys : List ℕ) → Rises xs → Rises ys → ((n : ℕ) → In xs n → In ys n) → ((n : ℕ) → In ys n → In xs n) → xs ≡ ys
one_list [] [] p q f g = refl
one_list [] (y ∷ ys) p q f g = absurd (none y (g y (first_in y ys)))
one_list (x ∷ xs) [] p q f g = absurd (none x (f x (first_in x xs)))
one_list (x ∷ xs) (y ∷ ys) p q f g =
    let e : x ≡ y = same_first x y xs ys p q (f x (first_in x xs)) (g y (first_in y ys)) in
    let tails : xs ≡ ys = one_list xs ys (rest x xs p) (rest y ys q)
    (λ n i. other x y n xs ys e p i (f n (later_in x n xs i)))
    (λ n i. other y x n ys xs (sym e) q i (g n (later_in y n ys i)))
    in
    λ i. e i ∷ tails i

put_over : (n m x : ℕ) (xs : List ℕ) → (m ≡ n) ⊎ In xs m → (m ≡ n) ⊎ In (x ∷ xs) m
unfolding In
put_over n m x xs (inl e) = inl e
put_over n m x xs (inr h) = inr (inr h)

put_in_by : (n m x : ℕ) (xs : List ℕ) (a b : Bool) → (In (put n xs) m → (m ≡ n) ⊎ In xs m) → In (if a then n ∷ x ∷ xs else (if b then x ∷ put n xs else x ∷ xs)) m
    → (m ≡ n) ⊎ In (x ∷ xs) m
unfolding In
put_in_by n m x xs true b more h = h
put_in_by n m x xs false true more (inl e) = inr (inl e)
put_in_by n m x xs false true more (inr h) = put_over n m x xs (more h)
put_in_by n m x xs false false more h = inr h

-- what a list holds after a number is put
put_in : (n m : ℕ) (xs : List ℕ) → In (put n xs) m → (m ≡ n) ⊎ In xs m
unfolding In
put_in n m [] h = h
put_in n m (x ∷ xs) h = put_in_by n m x xs (nat_lt n x) (nat_lt x n) (put_in n m xs) h

same_number : (n x : ℕ) → x ≤ n → n ≤ x → n ≡ x
same_number n x p q = omega arith

held_by : (n m x : ℕ) (xs : List ℕ) (a b : Bool) → nat_lt n x ≡ a → nat_lt x n ≡ b → ((m ≡ n) ⊎ In xs m → In (put n xs) m) → (m ≡ n) ⊎ In (x ∷ xs) m
    → In (if a then n ∷ x ∷ xs else (if b then x ∷ put n xs else x ∷ xs)) m
unfolding In
held_by n m x xs true b s t more h = h
held_by n m x xs false true s t more (inl e) = inr (more (inl e))
held_by n m x xs false true s t more (inr (inl e)) = inl e
held_by n m x xs false true s t more (inr (inr h)) = inr (more (inr h))
held_by n m x xs false false s t more (inl e) = inl (e ∙ same_number n x (ltb-false n x s) (ltb-false x n t))
held_by n m x xs false false s t more (inr h) = h

-- a number that is put is held, and those that were there are
held : (n m : ℕ) (xs : List ℕ) → (m ≡ n) ⊎ In xs m → In (put n xs) m
unfolding In
held n m [] h = h
held n m (x ∷ xs) h = held_by n m x xs (nat_lt n x) (nat_lt x n) refl refl (held n m xs) h

below : (n x m : ℕ) (xs : List ℕ) → n < x → ((k : ℕ) → In xs k → x < k) → In (x ∷ xs) m → n < m
unfolding In
below n x m xs l h (inl e) = omega (arith, e)
below n x m xs l h (inr i) = omega (arith, h m i)

past : (n x m : ℕ) (xs : List ℕ) → x < n → ((k : ℕ) → In xs k → x < k) → (m ≡ n) ⊎ In xs m → x < m
past n x m xs l h (inl e) = omega (arith, e)
past n x m xs l h (inr i) = h m i

put_rises_by : (n x : ℕ) (xs : List ℕ) (a b : Bool) → nat_lt n x ≡ a → nat_lt x n ≡ b → (Rises xs → Rises (put n xs)) → Rises (x ∷ xs)
    → Rises (if a then n ∷ x ∷ xs else (if b then x ∷ put n xs else x ∷ xs))
unfolding Rises
put_rises_by n x xs true b s t more h = (λ m i. below n x m xs (ltb-true n x s) h.0 i, h)
put_rises_by n x xs false true s t more h = (λ m i. past n x m xs (ltb-true x n t) h.0 (put_in n m xs i), more h.1)
put_rises_by n x xs false false s t more h = h

-- a list that rises does so after a number is put
put_rises : (n : ℕ) (xs : List ℕ) → Rises xs → Rises (put n xs)
unfolding Rises
put_rises n [] h = (λ m i. absurd (none m i), tt)
put_rises n (x ∷ xs) h = put_rises_by n x xs (nat_lt n x) (nat_lt x n) refl refl (put_rises n xs) h

rising_rises : (ns : List ℕ) → Rises (rising_of ns)
unfolding Rises
rising_rises [] = tt
rising_rises (n ∷ ns) = put_rises n (rising_of ns) (rising_rises ns)

again : (n : ℕ) (ns : List ℕ) (m : ℕ) → (In (rising_of ns) m → In ns m) → (m ≡ n) ⊎ In (rising_of ns) m → In (n ∷ ns) m
unfolding In
again n ns m more (inl e) = inl e
again n ns m more (inr h) = inr (more h)

rising_in : (ns : List ℕ) (m : ℕ) → In (rising_of ns) m → In ns m
unfolding In
rising_in [] m h = h
rising_in (n ∷ ns) m h = again n ns m (rising_in ns m) (put_in n m (rising_of ns) h)

in_rising : (ns : List ℕ) (m : ℕ) → In ns m → In (rising_of ns) m
unfolding In
in_rising [] m h = h
in_rising (n ∷ ns) m (inl e) = held n m (rising_of ns) (inl e)
in_rising (n ∷ ns) m (inr h) = held n m (rising_of ns) (inr (in_rising ns m h))

numbers_again : (docs : List DocId) → map (λ n. record { 0 = n }) (numbers docs) ≡ docs
numbers_again [] = refl
numbers_again (d ∷ docs) = λ i. d ∷ numbers_again docs i

-- documents that rise and have these numbers are those in rising order
pub rising_docs : (all : List ℕ) (docs : List DocId) → IsRising all (numbers docs) → docs ≡ docs_of all
rising_docs all docs h =
    let same : numbers docs ≡ rising_of all = one_list (numbers docs) (rising_of all) (rises (numbers docs) h.rising) (rising_rises all)
    (λ n i. in_rising all n (in_list all n (h.none_else n (contains (numbers docs) n i))))
    (λ n i. in_list (numbers docs) n (h.each n (contains all n (rising_in all n i))))
    in
    sym (numbers_again docs) ∙ ap (λ (ns : List ℕ). map (λ n. record { 0 = n }) ns) same

increasing_at : (x : ℕ) (xs : List ℕ) (k : ℕ) → IsStrictlyIncreasing xs → ((n : ℕ) → In xs n → x < n) → k + 1 < length (x ∷ xs) → get_or (x ∷ xs) k 0 < get_or (x ∷ xs) (k + 1) 0
increasing_at x [] k h above low = absurd (omega arith)
increasing_at x (y ∷ ys) zero h above low = above y (first_in y ys)
increasing_at x (y ∷ ys) (suc k) h above low =
    let e : suc (k + 1) ≡ suc k + 1 = omega arith in
    subst (λ (n : ℕ). get_or (y ∷ ys) k 0 < get_or (x ∷ y ∷ ys) n 0) e (h k (omega arith))

increasing : (xs : List ℕ) → Rises xs → IsStrictlyIncreasing xs
unfolding Rises
increasing [] h k low = absurd (omega arith)
increasing (x ∷ xs) h k low = increasing_at x xs k (increasing xs h.1) h.0 low

numbers_of : (ns : List ℕ) → numbers (map (λ n. record { 0 = n }) ns) ≡ ns
numbers_of [] = refl
numbers_of (n ∷ ns) = λ i. n ∷ numbers_of ns i

-- the documents in rising order rise, and have the numbers
pub docs_rise : (all : List ℕ) → IsRising all (numbers (docs_of all))
docs_rise all =
    subst (IsRising all) (sym (numbers_of (rising_of all)))
    (record {
      rising = increasing (rising_of all) (rising_rises all);
      none_else = λ n c. contains all n (rising_in all n (in_list (rising_of all) n c));
      each = λ n c. contains (rising_of all) n (in_rising all n (in_list all n c));
    })
