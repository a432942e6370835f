-- Serials that rise, and where one stands.
use Rattle.std.proofs.Common.{◌≡◌, ℕ, ◌+◌, ◌-◌, ◌<◌, ◌≤◌, List, [], ◌∷◌, length, get_or, refl, ap, sym, ◌∙◌, arith, zero, suc, ◌⊎◌, inl, inr}
use Rattle.std.specs.Prelude.{◌==◌, Bool, true, false, if◌then◌else◌, Option, Some, None, AllPairs}
use Rattle.std.proofs.lemmas.Bool.{eq-eqb, ne_eqb, cases_eq, cases_order}
use Rattle.dory_log.specs.declared.own.Own.{Own}
use Rattle.dory_log.specs.Own.{number_among, serial_after}

at_if : (b : Bool) (o : Own) (x : Option ℕ) → b ≡ true → (if b then Some o.number else x) ≡ Some o.number
at_if true o x e = refl
at_if false o x e = absurd (cc)

past_if : (b : Bool) (o : Own) (x y : Option ℕ) → b ≡ false → x ≡ y → (if b then Some o.number else x) ≡ y
past_if true o x y e q = absurd (cc)
past_if false o x y e q = q

pub number_here : (os : List Own) (i s : ℕ) (d : Own) → ((k : ℕ) → k < i → (get_or os k d).serial < s) → i < length os → (get_or os i d).serial ≡ s →
    number_among os s ≡ Some (get_or os i d).number
number_here [] i s d below lt e = absurd (omega arith)
number_here (o ∷ os) zero s d below lt e = at_if (o.serial == s) o (number_among os s) (eq-eqb o.serial s e)
number_here (o ∷ os) (suc i) s d below lt e =
    past_if (o.serial == s) o (number_among os s) (Some (get_or os i d).number) (ne_eqb o.serial s (λ q. omega (arith, below 0 (omega arith), q)))
    (number_here os i s d (λ k l. below (suc k) (omega arith)) (omega arith) e)

pub number_none : (os : List Own) (s : ℕ) (d : Own) → ((k : ℕ) → k < length os → (get_or os k d).serial ≡ s → ⊥) → number_among os s ≡ None
number_none [] s d apart = refl
number_none (o ∷ os) s d apart =
    past_if (o.serial == s) o (number_among os s) None (ne_eqb o.serial s (apart 0 (omega arith))) (number_none os s d (λ k l. apart (suc k) (omega arith)))

-- what the search knows: below low they are less, from high on they aren't
pub record Halves (os : List Own) (low high s : ℕ) : Type 0 where
  pub order : low ≤ high
  pub fits : high ≤ length os
  pub below : (k : ℕ) → k < low → (get_or os k (record { serial = 0; number = 0 })).serial < s
  pub above : (k : ℕ) → high ≤ k → k < length os → s ≤ (get_or os k (record { serial = 0; number = 0 })).serial

pub halves_up : (os : List Own) (low high s mid : ℕ) → AllPairs (λ a b. a.serial < b.serial) os → Halves os low high s → mid < high → low ≤ mid →
    (get_or os mid (record { serial = 0; number = 0 })).serial < s → Halves os (mid + 1) high s
halves_up os low high s mid r h lt le less = record { order = omega arith; fits = h.fits; below = up; above = h.above }
  where
    by_case : (k : ℕ) → k < mid + 1 → ((k ≡ mid) ⊎ (k ≡ mid → ⊥)) → (get_or os k (record { serial = 0; number = 0 })).serial < s
    by_case k l (inl e) = let q : (get_or os k (record { serial = 0; number = 0 })).serial ≡ (get_or os mid (record { serial = 0; number = 0 })).serial = ap (λ (i : ℕ). (get_or os i (record { serial = 0; number = 0 })).serial) e in
        omega (arith, q, less)
    by_case k l (inr ne) = let p : k < mid = omega arith in let f : mid < length os = omega (arith, h.fits) in
        omega (arith, r k mid (record { serial = 0; number = 0 }) p f, less)

    up : (k : ℕ) → k < mid + 1 → (get_or os k (record { serial = 0; number = 0 })).serial < s
    up k l = by_case k l (cases_eq k mid)

pub halves_down : (os : List Own) (low high s mid : ℕ) → AllPairs (λ a b. a.serial < b.serial) os → Halves os low high s → mid < high → low ≤ mid →
    s ≤ (get_or os mid (record { serial = 0; number = 0 })).serial → Halves os low mid s
halves_down os low high s mid r h lt le more = record { order = le; fits = omega (arith, h.fits); below = h.below; above = down }
  where
    by_case : (k : ℕ) → mid ≤ k → k < length os → ((mid ≡ k) ⊎ (mid ≡ k → ⊥)) → s ≤ (get_or os k (record { serial = 0; number = 0 })).serial
    by_case k l f (inl e) = let q : (get_or os mid (record { serial = 0; number = 0 })).serial ≡ (get_or os k (record { serial = 0; number = 0 })).serial = ap (λ (i : ℕ). (get_or os i (record { serial = 0; number = 0 })).serial) e in
        omega (arith, q, more)
    by_case k l f (inr ne) = let p : mid < k = omega arith in
        omega (arith, r mid k (record { serial = 0; number = 0 }) p f, more)

    down : (k : ℕ) → mid ≤ k → k < length os → s ≤ (get_or os k (record { serial = 0; number = 0 })).serial
    down k l f = by_case k l f (cases_eq mid k)

pub last_is : (l : ℕ) (o : Own) (os : List Own) (d : Own) → (get_or (o ∷ os) (length os) d).serial ≡ serial_after l (o ∷ os)
last_is l o [] d = refl
last_is l o (x ∷ os) d = last_is o.serial x os d

-- where the halves have met, the serial is there or nowhere
pub found_there : (os : List Own) (low high s : ℕ) → Halves os low high s → low < length os → (get_or os low (record { serial = 0; number = 0 })).serial ≡ s →
    number_among os s ≡ Some (get_or os low (record { serial = 0; number = 0 })).number
found_there os low high s h lt e = number_here os low s (record { serial = 0; number = 0 }) h.below lt e

pub found_nowhere : (os : List Own) (low high s : ℕ) → AllPairs (λ a b. a.serial < b.serial) os → Halves os low high s → high ≤ low →
    (low < length os → (get_or os low (record { serial = 0; number = 0 })).serial ≡ s → ⊥) → number_among os s ≡ None
found_nowhere os low high s r h met not_there = number_none os s (record { serial = 0; number = 0 }) (λ k lt e. apart k lt e (cases_order k low))
  where
    apart : (k : ℕ) → k < length os → (get_or os k (record { serial = 0; number = 0 })).serial ≡ s → ((k ≡ low) ⊎ ((k < low) ⊎ (low < k))) → ⊥
    apart k lt e (inl q) =
        let f : low < length os = omega arith in
        let g : (get_or os low (record { serial = 0; number = 0 })).serial ≡ (get_or os k (record { serial = 0; number = 0 })).serial = ap (λ (i : ℕ). (get_or os i (record { serial = 0; number = 0 })).serial) (sym q) in
        not_there f (g ∙ e)
    apart k lt e (inr (inl q)) = omega (arith, h.below k q, e)
    apart k lt e (inr (inr q)) =
        let f : low < length os = omega arith in
        omega (arith, h.above low met f, r low k (record { serial = 0; number = 0 }) q lt, e)

pub last_at : (os : List Own) (d : Own) → ((length os ≡ 0) → ⊥) → (get_or os (length os - 1) d).serial ≡ serial_after 0 os
last_at [] d ne = absurd (ne refl)
last_at (o ∷ os) d ne = let e : length os ≡ length (o ∷ os) - 1 = omega arith in ap (λ (i : ℕ). (get_or (o ∷ os) i d).serial) (sym e) ∙ last_is 0 o os d
