-- What the looks have seen, and that each event they allow keeps what is true of every log.
use Rattle.std.proofs.Common.{◌≡◌, ◌≢◌, ℕ, ◌+◌, ◌-◌, ◌<◌, ◌≤◌, inl, inr, List, [], ◌∷◌, ◌++◌, length, refl, ap, sym, ◌∙◌, arith, zero, suc, subst, length-append}
use Rattle.std.specs.Prelude.{nat_lt, Bool, true, false, if◌then◌else◌, replicate, Option, Some, None, Result, Ok, Err, slice_get, slice_set, AllPairs}
use Rattle.std.specs.List.{AllByRecursion}
use Rattle.std.proofs.Math.ListN.{length-set}
use Rattle.std.proofs.lemmas.Bool.{ltb-false, ltb-true, cases_eq, ne_eqb}
use Rattle.std.proofs.lemmas.Option.{slice_get_within}
use Rattle.dory_base.specs.Dims.{Dims}
use Rattle.dory_base.specs.SameUpdate.{is_same_update}
use Rattle.dory_base.specs.declared.ids.Side.{Side}
use Rattle.dory_base.specs.declared.ids.Side.TheVariants.{Lead, Follow}
use Rattle.dory_base.specs.declared.ids.UpdateId.{UpdateId}
use Rattle.dory_base.specs.declared.entry.Entry.{Entry}
use Rattle.dory_base.specs.declared.plan.StagePlan.{StagePlan}
use Rattle.dory_base.specs.declared.plan.StagePlan.TheVariants.{New, Same, Done}
use Rattle.dory_base.specs.declared.plan.Plan.{Plan}
use Rattle.dory_base.specs.declared.plan.Plan.TheVariants.{Again, Fresh}
use Rattle.dory_base.specs.declared.refusal.Refusal.{Refusal}
use Rattle.dory_base.specs.declared.refusal.Refusal.TheVariants.{ShapeWrong, BadMember, Past, Clash, Unfinished, Taken, Gap, HistoryFull}
use Rattle.dory_base.specs.Log.{Log, empty_log, same_id, number_of, last_of, at_place, staged_by, with_id, staged_as, has_shape, stage_again, stage_busy, stage_beside, stage_known, look_stage, order_staged, order_known, order_as, look_order, follow_staged, follow_known, follow_again, follow_as, look_follow}
use Rattle.dory_base.specs.declared.event.Event.{Event}
use Rattle.dory_base.specs.declared.event.Event.TheVariants.{Staged, Appended}
use Rattle.dory_base.specs.Step.{log_staged, log_appended, log_after, event_of_stage, event_of_plan, IsSerial, IsMembersId, IsAbove, IsPlace, IsLog}
use Rattle.dory_base.proofs.SameLaws.{same_id-true}
use Rattle.dory_base.proofs.IdLaws.{last_snoc, rises_snoc, number_above, last_unknown, ids_distinct}

-- ---- places

pub get_set_same : {A : Type 0} (xs : List A) (i : ℕ) (v : A) → i < length xs → slice_get (slice_set xs i v) i ≡ Some v
get_set_same [] i v h = absurd (omega arith)
get_set_same (x ∷ xs) zero v h = refl
get_set_same (x ∷ xs) (suc i) v h = get_set_same xs i v (omega arith)

pub get_set_other : {A : Type 0} (xs : List A) (i j : ℕ) (v : A) → (i ≡ j → ⊥) → slice_get (slice_set xs i v) j ≡ slice_get xs j
get_set_other [] i j v h = refl
get_set_other (x ∷ xs) zero zero v h = absurd (h refl)
get_set_other (x ∷ xs) zero (suc j) v h = refl
get_set_other (x ∷ xs) (suc i) zero v h = refl
get_set_other (x ∷ xs) (suc i) (suc j) v h = get_set_other xs i j v (λ e. h (ap suc e))

pub place_set_same : (xs : List (Option Entry)) (i : ℕ) (v : Option Entry) → i < length xs → staged_by (slice_set xs i v) i ≡ v
place_set_same xs i v h = ap at_place (get_set_same xs i v h)

pub place_set_other : (xs : List (Option Entry)) (i j : ℕ) (v : Option Entry) → (i ≡ j → ⊥) → staged_by (slice_set xs i v) j ≡ staged_by xs j
place_set_other xs i j v h = ap at_place (get_set_other xs i j v h)

within_of : (xs : List (Option Entry)) (i : ℕ) (e : Entry) (o : Option (Option Entry)) → slice_get xs i ≡ o → at_place o ≡ Some e → i < length xs
within_of xs i e None g h = absurd (cc)
within_of xs i e (Some x) g h = slice_get_within xs i x g

-- where something is staged, there is a place
pub place_within : (xs : List (Option Entry)) (i : ℕ) (e : Entry) → staged_by xs i ≡ Some e → i < length xs
place_within xs i e h = within_of xs i e (slice_get xs i) refl h

empty_at : (n m : ℕ) (o : Option (Option Entry)) → slice_get (replicate n None) m ≡ o → at_place o ≡ None
empty_at zero m o e = ap at_place (sym e)
empty_at (suc n) zero o e = ap at_place (sym e)
empty_at (suc n) (suc m) o e = empty_at n m o e

pub nothing_staged : (n m : ℕ) → staged_by (replicate n None) m ≡ None
nothing_staged n m = empty_at n m (slice_get (replicate n None) m) refl

with_if : (b : Bool) (id : UpdateId) (x e : Entry) → (b ≡ true → x.id ≡ id) → ◌≡◌ {A = Option Entry} (if b then Some x else None) (Some e) → (Some x ≡ Some e) × (e.id ≡ id)
with_if true id x e s h = let w : x ≡ e = cc in (h, ap (λ (x : Entry). x.id) (sym w) ∙ s refl)
with_if false id x e s h = absurd (cc)

-- what is staged as an id is what its member has staged, and has that id
pub with_id_some : (id : UpdateId) (o : Option Entry) (e : Entry) → with_id id o ≡ Some e → (o ≡ Some e) × (e.id ≡ id)
with_id_some id None e h = absurd (cc)
with_id_some id (Some x) e h = with_if (same_id x.id id) id x e (same_id-true x.id id) h

-- ---- Stage

-- what a look that finds an update new has seen
pub record IsNew (log : Log) (e : Entry) : Type 0 where
  pub member : e.id.member.0 ≤ 63
  pub shape : has_shape log.shape e.change ≡ true
  pub unknown : number_of log.ids e.id ≡ None
  pub free : staged_by log.staged e.id.member.0 ≡ None
  pub last : last_of log.ids e.id.member.0 ≤ e.id.serial

after_new : (b : Bool) (l : ℕ) → ◌≡◌ {A = Result StagePlan Refusal} (if b then Err (Past l) else Ok New) (Ok New) → b ≡ false
after_new true l e = absurd (cc)
after_new false l e = refl

again_new : (b : Bool) (x : Refusal) → ◌≡◌ {A = Result StagePlan Refusal} (if b then Ok Same else Err x) (Ok New) → ⊥
again_new true x e = cc
again_new false x e = cc

busy_new : (b : Bool) (x y : Refusal) → ◌≡◌ {A = Result StagePlan Refusal} (if b then Err x else Err y) (Ok New) → ⊥
busy_new true x y e = cc
busy_new false x y e = cc

beside_new : (b : Bool) (s e : Entry) → ◌≡◌ {A = Result StagePlan Refusal} (if b then stage_again s e else stage_busy s.id e.id) (Ok New) → ⊥
beside_new true s e h = again_new (is_same_update s e) (Clash e.id) h
beside_new false s e h = busy_new (nat_lt e.id.serial s.id.serial) (Past s.id.serial) (Unfinished s.id) h

beside_seen : (o : Option Entry) (last : ℕ) (e : Entry) → stage_beside o last e ≡ Ok New → (o ≡ None) × (last ≤ e.id.serial)
beside_seen None last e h = (refl, ltb-false e.id.serial last (after_new (nat_lt e.id.serial last) last h))
beside_seen (Some s) last e h = absurd (beside_new (same_id s.id e.id) s e h)

known_seen : (o : Option ℕ) (log : Log) (e : Entry) → stage_known o log e ≡ Ok New →
    (o ≡ None) × (staged_by log.staged e.id.member.0 ≡ None) × (last_of log.ids e.id.member.0 ≤ e.id.serial)
known_seen (Some n) log e h = absurd (cc)
known_seen None log e h = let p = beside_seen (staged_by log.staged e.id.member.0) (last_of log.ids e.id.member.0) e h in (refl, p.0, p.1)

stage_seen : (b c : Bool) (log : Log) (e : Entry) (x y : Refusal) →
    (if b then Err x else if c then stage_known (number_of log.ids e.id) log e else Err y) ≡ Ok New →
    (b ≡ false) × (c ≡ true) × (stage_known (number_of log.ids e.id) log e ≡ Ok New)
stage_seen true c log e x y h = absurd (cc)
stage_seen false true log e x y h = (refl, refl, h)
stage_seen false false log e x y h = absurd (cc)

pub new_seen : (log : Log) (e : Entry) → look_stage log e ≡ Ok New → IsNew log e
new_seen log e h =
    let p = stage_seen (nat_lt 63 e.id.member.0) (has_shape log.shape e.change) log e (BadMember e.id.member) (ShapeWrong log.shape.depth log.shape.probes) h in
    let q = known_seen (number_of log.ids e.id) log e p.2 in
    record { member = ltb-false 63 e.id.member.0 p.0; shape = p.1; unknown = q.0; free = q.1; last = q.2 }

-- ---- Order and Follow

-- what a look that finds a commit fresh has seen
pub record IsFresh (log : Log) (number : ℕ) (id : UpdateId) : Type 0 where
  pub entry : Entry
  pub staged : staged_as log.staged id ≡ Some entry
  pub unknown : number_of log.ids id ≡ None
  pub next : number ≡ length log.ids + 1

order_if : (b : Bool) (len n : ℕ) → ◌≡◌ {A = Result Plan Refusal} (if b then Ok (Fresh (len + 1)) else Err HistoryFull) (Ok (Fresh n)) → (b ≡ true) × (len + 1 ≡ n)
order_if true len n e = (refl, cc)
order_if false len n e = absurd (cc)

order_staged_seen : (o : Option Entry) (len : ℕ) (id : UpdateId) (n : ℕ) → order_staged o len id ≡ Ok (Fresh n) → (e : Entry) × (o ≡ Some e) × (len + 1 ≡ n) × (len < 1048576)
order_staged_seen None len id n h = absurd (cc)
order_staged_seen (Some e) len id n h = let p = order_if (nat_lt len 1048576) len n h in (e, refl, p.1, ltb-true len 1048576 p.0)

order_known_seen : (o : Option ℕ) (log : Log) (id : UpdateId) (n : ℕ) → number_of log.ids id ≡ o → order_known o log id ≡ Ok (Fresh n) → IsFresh log n id × (n ≤ 1048576)
order_known_seen (Some m) log id n k h = absurd (cc)
order_known_seen None log id n k h =
    let p = order_staged_seen (staged_as log.staged id) (length log.ids) id n h in
    (record { entry = p.0; staged = p.1; unknown = k; next = sym p.2 }, omega (arith, p.2, p.3))

order_as_seen : (role : Side) (log : Log) (id : UpdateId) (n : ℕ) → order_as role log id ≡ Ok (Fresh n) → IsFresh log n id × (n ≤ 1048576)
order_as_seen Follow log id n h = absurd (cc)
order_as_seen Lead log id n h = order_known_seen (number_of log.ids id) log id n refl h

pub order_seen : (log : Log) (id : UpdateId) (n : ℕ) → look_order log id ≡ Ok (Fresh n) → IsFresh log n id × (n ≤ 1048576)
order_seen log id n h = order_as_seen log.role log id n h

follow_staged_seen : (o : Option Entry) (m n : ℕ) (id : UpdateId) → follow_staged o m id ≡ Ok (Fresh n) → (e : Entry) × (o ≡ Some e) × (m ≡ n)
follow_staged_seen None m n id h = absurd (cc)
follow_staged_seen (Some e) m n id h = (e, refl, cc)

follow_gap_seen : (b : Bool) (log : Log) (m n : ℕ) (id : UpdateId) →
    (if b then Err (Gap (length log.ids)) else follow_staged (staged_as log.staged id) m id) ≡ Ok (Fresh n) →
    (b ≡ false) × (follow_staged (staged_as log.staged id) m id ≡ Ok (Fresh n))
follow_gap_seen true log m n id h = absurd (cc)
follow_gap_seen false log m n id h = (refl, h)

follow_known_seen : (o : Option ℕ) (log : Log) (m n : ℕ) (id : UpdateId) → number_of log.ids id ≡ o → length log.ids < m →
    follow_known o log m id ≡ Ok (Fresh n) → IsFresh log n id × (m ≡ n)
follow_known_seen (Some k) log m n id e l h = absurd (cc)
follow_known_seen None log m n id e l h =
    let p = follow_gap_seen (nat_lt (length log.ids + 1) m) log m n id h in
    let q = follow_staged_seen (staged_as log.staged id) m n id p.1 in
    (record { entry = q.0; staged = q.1; unknown = e; next = omega (arith, q.2, l, ltb-false (length log.ids + 1) m p.0) }, q.2)

again_fresh : (b : Bool) (x y : Plan) (c : Refusal) (n : ℕ) → x ≡ Again n → ◌≡◌ {A = Result Plan Refusal} (if b then Ok x else Err c) (Ok y) → (m : ℕ) → y ≡ Fresh m → ⊥
again_fresh true x y c n e h m f = cc
again_fresh false x y c n e h m f = cc

follow_again_fresh : (o : Option UpdateId) (m n : ℕ) (id : UpdateId) → follow_again o m id ≡ Ok (Fresh n) → ⊥
follow_again_fresh None m n id h = cc
follow_again_fresh (Some x) m n id h = again_fresh (same_id x id) (Again m) (Fresh n) (Taken m x) m refl h n refl

follow_if : (b : Bool) (log : Log) (m n : ℕ) (id : UpdateId) → nat_lt (length log.ids) m ≡ b →
    (if b then follow_known (number_of log.ids id) log m id else follow_again (slice_get log.ids (m - 1)) m id) ≡ Ok (Fresh n) → IsFresh log n id × (m ≡ n)
follow_if true log m n id t h = follow_known_seen (number_of log.ids id) log m n id refl (ltb-true (length log.ids) m t) h
follow_if false log m n id t h = absurd (follow_again_fresh (slice_get log.ids (m - 1)) m n id h)

follow_as_seen : (role : Side) (log : Log) (m n : ℕ) (id : UpdateId) → follow_as role log m id ≡ Ok (Fresh n) → IsFresh log n id × (m ≡ n)
follow_as_seen Lead log m n id h = absurd (cc)
follow_as_seen Follow log m n id h = follow_if (nat_lt (length log.ids) m) log m n id refl h

pub follow_seen : (log : Log) (m n : ℕ) (id : UpdateId) → look_follow log m id ≡ Ok (Fresh n) → IsFresh log n id × (m ≡ n)
follow_seen log m n id h = follow_as_seen log.role log m n id h

-- ---- what is true of every log

-- an event that may happen to a log: a new update is staged, or a staged one is appended where there is room
abbrev pub MayHappen : Log → Event → Type 0
MayHappen log (Staged e) = IsNew log e × IsSerial e.id.serial
MayHappen log (Appended id) = (e : Entry) × (staged_as log.staged id ≡ Some e) × (length log.ids < 1048576)

pub empty_is_log : (role : Side) (shape : Dims) → IsLog (empty_log role shape)
empty_is_log role shape = record {
  few = omega arith;
  ids = tt;
  rising = λ m. refl;
  places = refl;
  above = λ m. subst (λ (o : Option Entry). IsPlace [] m o) (sym (nothing_staged 64 m)) tt;
}

strict : (a b : ℕ) → a ≤ b → (a ≡ b → 0 ≡ b) → 1 ≤ b → a < b
strict a b le h one = elim (cases_eq a b) [ inl e ↦ absurd (omega (arith, h e)) | inr ne ↦ omega arith ]

above_staged : (log : Log) (e : Entry) → IsLog log → IsNew log e → IsSerial e.id.serial → (m : ℕ) →
    IsPlace log.ids m (staged_by (slice_set log.staged e.id.member.0 (Some e)) m)
above_staged log e good new serial m =
    elim (cases_eq e.id.member.0 m) [
      | inl eq ↦
          subst (λ (m : ℕ). IsPlace log.ids m (staged_by (slice_set log.staged e.id.member.0 (Some e)) m)) eq
          (let len : e.id.member.0 < length log.staged = omega (arith, new.member, good.places) in
          subst (λ (o : Option Entry). IsPlace log.ids e.id.member.0 o) (sym (place_set_same log.staged e.id.member.0 (Some e) len))
          (record {
            own = refl;
            above = strict (last_of log.ids e.id.member.0) e.id.serial new.last (last_unknown log.ids e.id 1 0 new.unknown) serial.some;
            serial = serial;
          }))
      | inr other ↦
          subst (λ (o : Option Entry). IsPlace log.ids m o) (sym (place_set_other log.staged e.id.member.0 m (Some e) other)) (good.above m)
    ]

pub staged_is_log : (log : Log) (e : Entry) → IsLog log → IsNew log e → IsSerial e.id.serial → IsLog (log_staged log e)
staged_is_log log e good new serial = record {
  few = good.few;
  ids = good.ids;
  rising = good.rising;
  places = length-set log.staged e.id.member.0 (Some e) ∙ good.places;
  above = above_staged log e good new serial;
}

last_other : (ids : List UpdateId) (x : UpdateId) (m : ℕ) → (x.member.0 ≡ m → ⊥) → last_of (ids ++ x ∷ []) m ≡ last_of ids m
last_other ids x m ne = last_snoc 0 ids x m ∙ ap (λ (b : Bool). if b then x.serial else last_of ids m) (ne_eqb x.member.0 m ne)

place_other : (ids ids' : List UpdateId) (m : ℕ) (o : Option Entry) → last_of ids' m ≡ last_of ids m → IsPlace ids m o → IsPlace ids' m o
place_other ids ids' m None e h = tt
place_other ids ids' m (Some x) e h = record { own = h.own; above = omega (arith, e, h.above); serial = h.serial }

above_appended : (log : Log) (id : UpdateId) (e : Entry) → IsLog log → staged_by log.staged id.member.0 ≡ Some e → (m : ℕ) →
    IsPlace (log.ids ++ id ∷ []) m (staged_by (slice_set log.staged id.member.0 None) m)
above_appended log id e good here m =
    elim (cases_eq id.member.0 m) [
      | inl eq ↦
          subst (λ (m : ℕ). IsPlace (log.ids ++ id ∷ []) m (staged_by (slice_set log.staged id.member.0 None) m)) eq
          (subst (λ (o : Option Entry). IsPlace (log.ids ++ id ∷ []) id.member.0 o) (sym (place_set_same log.staged id.member.0 None (place_within log.staged id.member.0 e here))) tt)
      | inr other ↦
          subst (λ (o : Option Entry). IsPlace (log.ids ++ id ∷ []) m o) (sym (place_set_other log.staged id.member.0 m None other))
          (place_other log.ids (log.ids ++ id ∷ []) m (staged_by log.staged m) (last_other log.ids id m other) (good.above m))
    ]

pub all_snoc : {A : Type 0} (P : A → Type 0) (xs : List A) (x : A) → AllByRecursion P xs → P x → AllByRecursion P (xs ++ x ∷ [])
all_snoc P [] x all here = (here, tt)
all_snoc P (y ∷ ys) x all here = (all.0, all_snoc P ys x all.1 here)

-- what is staged as an id is above its member's last
pub above_of : (log : Log) (id : UpdateId) (e : Entry) → IsLog log → staged_as log.staged id ≡ Some e → (staged_by log.staged id.member.0 ≡ Some e) × (e.id ≡ id) × IsAbove log.ids id.member.0 id
above_of log id e good h =
    let p = with_id_some id (staged_by log.staged id.member.0) e h in
    let a : IsAbove log.ids id.member.0 e.id = subst (λ (o : Option Entry). IsPlace log.ids id.member.0 o) p.0 (good.above id.member.0) in
    (p.0, p.1, subst (λ (i : UpdateId). IsAbove log.ids id.member.0 i) p.1 a)

-- what is staged isn't in the history
pub staged_unknown : (log : Log) (id : UpdateId) (e : Entry) → IsLog log → staged_as log.staged id ≡ Some e → number_of log.ids id ≡ None
staged_unknown log id e good h =
    let p = above_of log id e good h in number_above log.ids id 1 0 (good.rising id.member.0) p.2.above

pub committed_is_log : (log : Log) (id : UpdateId) (e : Entry) → IsLog log → staged_as log.staged id ≡ Some e → length log.ids < 1048576 → IsLog (log_appended log id (Some e))
committed_is_log log id e good h room =
    let p = above_of log id e good h in
    record {
      few = omega (arith, length-append log.ids (id ∷ []), room);
      ids = all_snoc IsMembersId log.ids id good.ids (record { member = omega (arith, place_within log.staged id.member.0 e p.0, good.places); serial = p.2.serial });
      rising = λ m. rises_snoc log.ids id m 0 (good.rising m) (λ same. subst (λ (m : ℕ). last_of log.ids m < id.serial) same p.2.above);
      places = length-set log.staged id.member.0 None ∙ good.places;
      above = above_appended log id e good p.0;
    }

-- each event that may happen keeps what is true of every log
pub after_is_log : (log : Log) (event : Event) → IsLog log → MayHappen log event → IsLog (log_after log event)
after_is_log log (Staged e) good may = staged_is_log log e good may.0 may.1
after_is_log log (Appended id) good may =
    subst (λ (o : Option Entry). IsLog (log_appended log id o)) (sym may.1) (committed_is_log log id may.0 good may.1 may.2)

-- ---- the events that the looks allow

stage_event : (log : Log) (e : Entry) (event : Event) (look : Result StagePlan Refusal) → look_stage log e ≡ look → event_of_stage e look ≡ Some event → IsSerial e.id.serial → MayHappen log event
stage_event log e event (Ok New) k h serial =
    let w : Staged e ≡ event = cc in subst (λ (v : Event). MayHappen log v) w (new_seen log e k, serial)
stage_event log e event (Ok Same) k h serial = absurd (cc)
stage_event log e event (Ok (Done n)) k h serial = absurd (cc)
stage_event log e event (Err c) k h serial = absurd (cc)

pub stage_may : (log : Log) (e : Entry) (event : Event) → event_of_stage e (look_stage log e) ≡ Some event → IsSerial e.id.serial → MayHappen log event
stage_may log e event h serial = stage_event log e event (look_stage log e) refl h serial

plan_event : (log : Log) (id : UpdateId) (event : Event) (look : Result Plan Refusal) → ((n : ℕ) → look ≡ Ok (Fresh n) → IsFresh log n id × (n ≤ 1048576)) → event_of_plan id look ≡ Some event → MayHappen log event
plan_event log id event (Ok (Fresh n)) seen h =
    let w : Appended id ≡ event = cc in
    let p = seen n refl in
    subst (λ (v : Event). MayHappen log v) w (p.0.entry, p.0.staged, omega (arith, p.0.next, p.1))
plan_event log id event (Ok (Again n)) seen h = absurd (cc)
plan_event log id event (Err c) seen h = absurd (cc)

pub order_may : (log : Log) (id : UpdateId) (event : Event) → event_of_plan id (look_order log id) ≡ Some event → MayHappen log event
order_may log id event h = plan_event log id event (look_order log id) (order_seen log id) h

pub follow_may : (log : Log) (number : ℕ) (id : UpdateId) (event : Event) → number ≤ 1048576 → event_of_plan id (look_follow log number id) ≡ Some event → MayHappen log event
follow_may log number id event few h =
    plan_event log id event (look_follow log number id) (λ n k. let p = follow_seen log number n id k in (p.0, omega (arith, p.1, few))) h

-- ---- no id twice

pub log_distinct : (log : Log) → IsLog log → AllPairs (λ a b. a ≢ b) log.ids
log_distinct log good = ids_distinct log.ids (λ m. (0, good.rising m))
