-- Ids in the order of a history: their numbers, and the serials of one member.
use Rattle.std.proofs.Common.{◌≡◌, ◌≢◌, ℕ, ◌+◌, ◌-◌, ◌<◌, ◌≤◌, List, [], ◌∷◌, ◌++◌, length, get_or, refl, ap, sym, ◌∙◌, arith, zero, suc, subst}
use Rattle.std.specs.Prelude.{◌==◌, ◌&&◌, nat_lt, Bool, true, false, if◌then◌else◌, Some, None, AllPairs, slice_get}
use Rattle.std.proofs.lemmas.Bool.{eqb-true, and_parts, ltb-true, lt-ltb, eq-eqb, and_from, false≢true}
use Rattle.dory_base.specs.declared.ids.UpdateId.{UpdateId}
use Rattle.dory_base.specs.Log.{same_id, number_from, last_after}
use Rattle.dory_base.specs.Step.{rises}
use Rattle.dory_base.proofs.SameLaws.{same_id-true}

-- ---- one more id

pub last_snoc : (l : ℕ) (xs : List UpdateId) (x : UpdateId) (m : ℕ) →
    last_after l (xs ++ x ∷ []) m ≡ (if x.member.0 == m then x.serial else last_after l xs m)
last_snoc l [] x m = refl
last_snoc l (y ∷ ys) x m = last_snoc (if y.member.0 == m then y.serial else l) ys x m

rises_one : (b : Bool) (x : UpdateId) (m l : ℕ) → (b ≡ true → x.member.0 ≡ m) → (x.member.0 ≡ m → l < x.serial) →
    (if b then (nat_lt l x.serial && true) else true) ≡ true
rises_one true x m l e h = and_from (nat_lt l x.serial) true (lt-ltb l x.serial (h (e refl))) refl
rises_one false x m l e h = refl

rises_more : (b : Bool) (x : UpdateId) (m l s : ℕ) (ys : List UpdateId) →
    ((l : ℕ) → rises l ys m ≡ true → (x.member.0 ≡ m → last_after l ys m < x.serial) → rises l (ys ++ x ∷ []) m ≡ true) →
    (if b then (nat_lt l s && rises s ys m) else rises l ys m) ≡ true →
    (x.member.0 ≡ m → last_after (if b then s else l) ys m < x.serial) →
    (if b then (nat_lt l s && rises s (ys ++ x ∷ []) m) else rises l (ys ++ x ∷ []) m) ≡ true
rises_more true x m l s ys more r h =
    let p = and_parts (nat_lt l s) (rises s ys m) r in
    and_from (nat_lt l s) (rises s (ys ++ x ∷ []) m) p.0 (more s p.1 h)
rises_more false x m l s ys more r h = more l r h

-- serials go on rising where the last one is above those before it
pub rises_snoc : (xs : List UpdateId) (x : UpdateId) (m l : ℕ) → rises l xs m ≡ true →
    (x.member.0 ≡ m → last_after l xs m < x.serial) → rises l (xs ++ x ∷ []) m ≡ true
rises_snoc [] x m l r h = rises_one (x.member.0 == m) x m l (eqb-true x.member.0 m) h
rises_snoc (y ∷ ys) x m l r h = rises_more (y.member.0 == m) x m l y.serial ys (rises_snoc ys x m) r h

-- ---- the last serial

le_last_more : (b : Bool) (m l s : ℕ) (ys : List UpdateId) →
    ((l : ℕ) → rises l ys m ≡ true → l ≤ last_after l ys m) →
    (if b then (nat_lt l s && rises s ys m) else rises l ys m) ≡ true → l ≤ last_after (if b then s else l) ys m
le_last_more true m l s ys more r =
    let p = and_parts (nat_lt l s) (rises s ys m) r in
    omega (arith, ltb-true l s p.0, more s p.1)
le_last_more false m l s ys more r = more l r

pub le_last : (xs : List UpdateId) (m l : ℕ) → rises l xs m ≡ true → l ≤ last_after l xs m
le_last [] m l r = omega arith
le_last (y ∷ ys) m l r = le_last_more (y.member.0 == m) m l y.serial ys (le_last ys m) r

above_more : (b c : Bool) (n l : ℕ) (y id : UpdateId) (ys : List UpdateId) →
    (b ≡ true → y.serial ≡ id.serial) → (same_id y id ≡ b) → (y.member.0 == id.member.0) ≡ c →
    ((n l : ℕ) → rises l ys id.member.0 ≡ true → last_after l ys id.member.0 < id.serial → number_from n ys id ≡ None) →
    (if c then (nat_lt l y.serial && rises y.serial ys id.member.0) else rises l ys id.member.0) ≡ true →
    last_after (if c then y.serial else l) ys id.member.0 < id.serial →
    (if b then Some n else number_from (n + 1) ys id) ≡ None
above_more false true n l y id ys e s f more r h =
    let p = and_parts (nat_lt l y.serial) (rises y.serial ys id.member.0) r in more (n + 1) y.serial p.1 h
above_more false false n l y id ys e s f more r h = more (n + 1) l r h
above_more true true n l y id ys e s f more r h =
    let p = and_parts (nat_lt l y.serial) (rises y.serial ys id.member.0) r in
    absurd (omega (arith, e refl, le_last ys id.member.0 y.serial p.1))
above_more true false n l y id ys e s f more r h =
    absurd (false≢true (sym f ∙ (and_parts (y.member.0 == id.member.0) (y.serial == id.serial) s).0))

-- an id above its member's last serial isn't there
pub number_above : (xs : List UpdateId) (id : UpdateId) (n l : ℕ) → rises l xs id.member.0 ≡ true →
    last_after l xs id.member.0 < id.serial → number_from n xs id ≡ None
number_above [] id n l r h = refl
number_above (y ∷ ys) id n l r h =
    above_more (same_id y id) (y.member.0 == id.member.0) n l y id ys
    (λ s. eqb-true y.serial id.serial (and_parts (y.member.0 == id.member.0) (y.serial == id.serial) s).1)
    refl refl (number_above ys id) r h

last_more : (b c : Bool) (n l : ℕ) (y id : UpdateId) (ys : List UpdateId) → (same_id y id ≡ b) → (y.member.0 == id.member.0) ≡ c →
    ((n l : ℕ) → number_from n ys id ≡ None → last_after l ys id.member.0 ≡ id.serial → l ≡ id.serial) →
    (if b then Some n else number_from (n + 1) ys id) ≡ None →
    last_after (if c then y.serial else l) ys id.member.0 ≡ id.serial → l ≡ id.serial
last_more true c n l y id ys s f more e h = absurd (cc)
last_more false true n l y id ys s f more e h =
    absurd (false≢true (sym s ∙ and_from (y.member.0 == id.member.0) (y.serial == id.serial) f (eq-eqb y.serial id.serial (more (n + 1) y.serial e h))))
last_more false false n l y id ys s f more e h = more (n + 1) l e h

-- an id that isn't there has not its member's last serial
pub last_unknown : (xs : List UpdateId) (id : UpdateId) (n l : ℕ) → number_from n xs id ≡ None →
    last_after l xs id.member.0 ≡ id.serial → l ≡ id.serial
last_unknown [] id n l e h = h
last_unknown (y ∷ ys) id n l e h = last_more (same_id y id) (y.member.0 == id.member.0) n l y id ys refl refl (last_unknown ys id) e h

-- ---- numbers

number_if : (b : Bool) (n k : ℕ) (x id : UpdateId) (xs : List UpdateId) → (b ≡ true → x ≡ id) →
    ((n k : ℕ) → number_from n xs id ≡ Some k → (n ≤ k) × (slice_get xs (k - n) ≡ Some id)) →
    (if b then Some n else number_from (n + 1) xs id) ≡ Some k → (n ≤ k) × (slice_get (x ∷ xs) (k - n) ≡ Some id)
number_if true n k x id xs s more e =
    let w : n ≡ k = cc in
    let z : 0 ≡ k - n = omega arith in
    (omega arith, subst (λ (i : ℕ). slice_get (x ∷ xs) i ≡ Some id) z (ap (λ (x : UpdateId). Some x) (s refl)))
number_if false n k x id xs s more e =
    let p = more (n + 1) k e in
    let z : suc (k - (n + 1)) ≡ k - n = omega (arith, p.0) in
    (omega (arith, p.0), subst (λ (i : ℕ). slice_get (x ∷ xs) i ≡ Some id) z p.1)

-- an id stands where its number says
pub number_there : (xs : List UpdateId) (id : UpdateId) (n k : ℕ) → number_from n xs id ≡ Some k → (n ≤ k) × (slice_get xs (k - n) ≡ Some id)
number_there [] id n k e = absurd (cc)
number_there (x ∷ xs) id n k e = number_if (same_id x id) n k x id xs (same_id-true x id) (number_there xs id) e

-- ---- no id twice

above_if : (b : Bool) (l k m : ℕ) (x d : UpdateId) (xs : List UpdateId) → (x.member.0 ≡ m → b ≡ true) →
    ((l k : ℕ) → rises l xs m ≡ true → k < length xs → (get_or xs k d).member.0 ≡ m → l < (get_or xs k d).serial) →
    (if b then (nat_lt l x.serial && rises x.serial xs m) else rises l xs m) ≡ true →
    k < length (x ∷ xs) → (get_or (x ∷ xs) k d).member.0 ≡ m → l < (get_or (x ∷ xs) k d).serial
above_if true l zero m x d xs is more r h e = ltb-true l x.serial (and_parts (nat_lt l x.serial) (rises x.serial xs m) r).0
above_if true l (suc k) m x d xs is more r h e =
    let p = and_parts (nat_lt l x.serial) (rises x.serial xs m) r in
    omega (arith, ltb-true l x.serial p.0, more x.serial k p.1 (omega arith) e)
above_if false l zero m x d xs is more r h e = absurd (false≢true (is e))
above_if false l (suc k) m x d xs is more r h e = more l k r (omega arith) e

-- serials that rise from l are above l
pub rises_above : (xs : List UpdateId) (m l k : ℕ) (d : UpdateId) → rises l xs m ≡ true → k < length xs → (get_or xs k d).member.0 ≡ m → l < (get_or xs k d).serial
rises_above [] m l k d r h e = absurd (omega arith)
rises_above (x ∷ xs) m l k d r h e = above_if (x.member.0 == m) l k m x d xs (eq-eqb x.member.0 m) (λ l k. rises_above xs m l k d) r h e

own_rises : (b : Bool) (l m : ℕ) (x : UpdateId) (xs : List UpdateId) → b ≡ true →
    (if b then (nat_lt l x.serial && rises x.serial xs m) else rises l xs m) ≡ true → rises x.serial xs m ≡ true
own_rises true l m x xs is r = (and_parts (nat_lt l x.serial) (rises x.serial xs m) r).1
own_rises false l m x xs is r = absurd (false≢true is)

rest_rises : (b : Bool) (l m : ℕ) (x : UpdateId) (xs : List UpdateId) →
    (if b then (nat_lt l x.serial && rises x.serial xs m) else rises l xs m) ≡ true → (l : ℕ) × (rises l xs m ≡ true)
rest_rises true l m x xs r = (x.serial, (and_parts (nat_lt l x.serial) (rises x.serial xs m) r).1)
rest_rises false l m x xs r = (l, r)

pairs_more : (x : UpdateId) (xs : List UpdateId) → ((m : ℕ) → (l : ℕ) × (rises l (x ∷ xs) m ≡ true)) → AllPairs (λ a b. a ≢ b) xs →
    (i j : ℕ) (d : UpdateId) → i < j → j < length (x ∷ xs) → get_or (x ∷ xs) i d ≢ get_or (x ∷ xs) j d
pairs_more x xs all more i zero d h f = absurd (omega arith)
pairs_more x xs all more zero (suc j) d h f = λ e.
    let a = all x.member.0 in
    let r = own_rises (x.member.0 == x.member.0) a.0 x.member.0 x xs (eq-eqb x.member.0 x.member.0 refl) a.1 in
    let less = rises_above xs x.member.0 x.serial j d r (omega arith) (ap (λ (i : UpdateId). i.member.0) (sym e)) in
    let same : x.serial ≡ (get_or xs j d).serial = ap (λ (i : UpdateId). i.serial) e in
    omega arith
pairs_more x xs all more (suc i) (suc j) d h f = more i j d (omega arith) (omega arith)

-- where each member's serials rise, no id stands twice
pub ids_distinct : (xs : List UpdateId) → ((m : ℕ) → (l : ℕ) × (rises l xs m ≡ true)) → AllPairs (λ a b. a ≢ b) xs
ids_distinct [] all = λ i j d h f. absurd (omega arith)
ids_distinct (x ∷ xs) all = pairs_more x xs all (ids_distinct xs (λ m. let a = all m in rest_rises (x.member.0 == m) a.0 m x xs a.1))
