-- A member's own updates answer for all ids.
use Rattle.std.proofs.Common.{◌≡◌, ℕ, ◌+◌, ◌<◌, List, [], ◌∷◌, length, get_or, ap, ◌∙◌, arith, zero, suc, refl}
use Rattle.std.specs.Prelude.{◌==◌, ◌&&◌, nat_lt, Bool, true, false, if◌then◌else◌, Some, AllPairs}
use Rattle.std.proofs.lemmas.Bool.{and_parts, ltb-true}
use Rattle.dory_base.specs.declared.ids.UpdateId.{UpdateId}
use Rattle.dory_base.specs.Log.{number_from, last_after}
use Rattle.dory_base.specs.Step.{rises}
use Rattle.dory_log.specs.declared.own.Own.{Own}
use Rattle.dory_log.specs.Own.{own_from, number_among, serial_after}

number_if : (c b : Bool) (n : ℕ) (x id : UpdateId) (xs : List UpdateId) → (x.member.0 == id.member.0) ≡ c → (x.serial == id.serial) ≡ b →
    ((n : ℕ) → number_among (own_from n xs id.member.0) id.serial ≡ number_from n xs id) →
    number_among (if c then record { serial = x.serial; number = n } ∷ own_from (n + 1) xs id.member.0 else own_from (n + 1) xs id.member.0) id.serial
    ≡ (if c && b then Some n else number_from (n + 1) xs id)
number_if true true n x id xs m s more = ap (λ (b : Bool). if b then Some n else number_among (own_from (n + 1) xs id.member.0) id.serial) s
number_if true false n x id xs m s more = ap (λ (b : Bool). if b then Some n else number_among (own_from (n + 1) xs id.member.0) id.serial) s ∙ more (n + 1)
number_if false b n x id xs m s more = more (n + 1)

-- the number of an id is in its member's own list
pub own_number : (xs : List UpdateId) (id : UpdateId) (n : ℕ) → number_among (own_from n xs id.member.0) id.serial ≡ number_from n xs id
own_number [] id n = refl
own_number (x ∷ xs) id n = number_if (x.member.0 == id.member.0) (x.serial == id.serial) n x id xs refl refl (own_number xs id)

last_if : (c : Bool) (l n : ℕ) (x : UpdateId) (xs : List UpdateId) (m : ℕ) → ((l n : ℕ) → serial_after l (own_from n xs m) ≡ last_after l xs m) →
    serial_after l (if c then record { serial = x.serial; number = n } ∷ own_from (n + 1) xs m else own_from (n + 1) xs m) ≡ last_after (if c then x.serial else l) xs m
last_if true l n x xs m more = more x.serial (n + 1)
last_if false l n x xs m more = more l (n + 1)

-- and so is the last serial
pub own_last : (xs : List UpdateId) (m l n : ℕ) → serial_after l (own_from n xs m) ≡ last_after l xs m
own_last [] m l n = refl
own_last (x ∷ xs) m l n = last_if (x.member.0 == m) l n x xs m (own_last xs m)

-- serials that rise, all above l
record Rising (l : ℕ) (os : List Own) : Type 0 where
  pub above : (k : ℕ) (d : Own) → k < length os → l < (get_or os k d).serial
  pub pairs : (i j : ℕ) (d : Own) → i < j → j < length os → (get_or os i d).serial < (get_or os j d).serial

rising_cons : (l s n : ℕ) (os : List Own) → l < s → Rising s os → Rising l (record { serial = s; number = n } ∷ os)
rising_cons l s n os lt r = record { above = above; pairs = pairs }
  where
    above : (k : ℕ) (d : Own) → k < length (record { serial = s; number = n } ∷ os) → l < (get_or (record { serial = s; number = n } ∷ os) k d).serial
    above zero d h = lt
    above (suc k) d h = omega (arith, lt, r.above k d (omega arith))

    pairs : (i j : ℕ) (d : Own) → i < j → j < length (record { serial = s; number = n } ∷ os) → (get_or (record { serial = s; number = n } ∷ os) i d).serial < (get_or (record { serial = s; number = n } ∷ os) j d).serial
    pairs i zero d h f = absurd (omega arith)
    pairs zero (suc j) d h f = r.above j d (omega arith)
    pairs (suc i) (suc j) d h f = r.pairs i j d (omega arith) (omega arith)

rising_if : (c : Bool) (l n : ℕ) (x : UpdateId) (xs : List UpdateId) (m : ℕ) → ((l n : ℕ) → rises l xs m ≡ true → Rising l (own_from n xs m)) →
    (if c then (nat_lt l x.serial && rises x.serial xs m) else rises l xs m) ≡ true →
    Rising l (if c then record { serial = x.serial; number = n } ∷ own_from (n + 1) xs m else own_from (n + 1) xs m)
rising_if true l n x xs m more r =
    let p = and_parts (nat_lt l x.serial) (rises x.serial xs m) r in rising_cons l x.serial n (own_from (n + 1) xs m) (ltb-true l x.serial p.0) (more x.serial (n + 1) p.1)
rising_if false l n x xs m more r = more l (n + 1) r

own_rising : (xs : List UpdateId) (m l n : ℕ) → rises l xs m ≡ true → Rising l (own_from n xs m)
own_rising [] m l n r = record { above = λ k d h. absurd (omega arith); pairs = λ i j d h f. absurd (omega arith) }
own_rising (x ∷ xs) m l n r = rising_if (x.member.0 == m) l n x xs m (own_rising xs m) r

-- where a member's serials rise, its own list is in order
pub own_pairs : (xs : List UpdateId) (m : ℕ) → rises 0 xs m ≡ true → AllPairs (λ a b. a.serial < b.serial) (own_from 1 xs m)
own_pairs xs m r = (own_rising xs m 0 1 r).pairs
