-- What was asked of a folder, and not refused, is among its operations.
use Rattle.std.proofs.Common.{◌≡◌, ℕ, zero, suc, ◌+◌, ◌-◌, ◌≤◌, Bool, true, false, cond, List, [], ◌∷◌, ◌++◌, length, Option, Some, None, Result, Ok, Err, refl, sym, ◌∙◌, ap, subst, arith}
use Rattle.std.specs.Prelude.{slice_get, nat_lt}
use Rattle.std.proofs.lemmas.Bool.{ltb-false}
use Rattle.dory_base.specs.Log.{Log, number_of, last_of, staged_by, staged_as, same_id, has_shape, stage_again, stage_busy, stage_beside, stage_known, look_stage, order_staged, order_known, order_as, look_order, follow_staged, follow_known, follow_again, follow_as, look_follow}
use Rattle.dory_base.specs.SameUpdate.{is_same_update}
use Rattle.dory_base.specs.declared.ids.Side.{Side}
use Rattle.dory_base.specs.declared.ids.Side.TheVariants.{Lead, Follow as Following}
use Rattle.dory_base.specs.declared.ids.UpdateId.{UpdateId}
use Rattle.dory_base.specs.declared.entry.Entry.{Entry}
use Rattle.dory_base.specs.declared.plan.StagePlan.{StagePlan}
use Rattle.dory_base.specs.declared.plan.StagePlan.TheVariants.{New, Same, Done}
use Rattle.dory_base.specs.declared.plan.Plan.{Plan}
use Rattle.dory_base.specs.declared.plan.Plan.TheVariants.{Again, Fresh}
use Rattle.dory_base.specs.declared.refusal.Refusal.{Refusal}
use Rattle.dory_base.specs.declared.refusal.Refusal.TheVariants.{BadMember, ShapeWrong, Past, Clash, Unfinished, HistoryFull, Gap, Taken}
use Rattle.dory_base.proofs.SameLaws.{same_id-true, update_decides}
use Rattle.dory_base.proofs.IdLaws.{number_there}
use Rattle.dory_base.proofs.LogLaws.{follow_seen}
use Rattle.dory_wire.specs.declared.message.Want.{Want}
use Rattle.dory_wire.specs.declared.message.Want.TheVariants.{Latest, Search, Which, Stage, Order, Follow}
use Rattle.dory_wire.specs.Spelling.{IsWant}
use Rattle.dory_journal.specs.Ops.{Op, Stages, Appends, Has}
use Rattle.dory_journal.specs.Made.{op_of_stage, op_of_plan, op_made, refusal_in, refusal_of, with_made, HasStaged, HasAsked}
use Rattle.dory_journal.proofs.Kept.{IsMadeBy, has_last}

-- ---- Stage

passed : (b c : Bool) (x y : Refusal) (r : Result StagePlan Refusal) (p : StagePlan) → cond b (Err x) (cond c r (Err y)) ≡ Ok p → r ≡ Ok p
passed true c x y r p h = absurd cc
passed false true x y r p h = h
passed false false x y r p h = absurd cc

known : (log : Log) (e : Entry) (p : StagePlan) → look_stage log e ≡ Ok p → stage_known (number_of log.ids e.id) log e ≡ Ok p
known log e p h = passed (nat_lt 63 e.id.member.0) (has_shape log.shape e.change) (BadMember e.id.member) (ShapeWrong log.shape.depth log.shape.probes) (stage_known (number_of log.ids e.id) log e) p h

after_same : (b : Bool) (last : ℕ) → ◌≡◌ {A = Result StagePlan Refusal} (cond b (Err (Past last)) (Ok New)) (Ok Same) → ⊥
after_same true last h = cc
after_same false last h = cc

again_same : (b : Bool) (x : Refusal) → ◌≡◌ {A = Result StagePlan Refusal} (cond b (Ok Same) (Err x)) (Ok Same) → b ≡ true
again_same true x h = refl
again_same false x h = absurd cc

busy_same : (b : Bool) (x y : Refusal) → ◌≡◌ {A = Result StagePlan Refusal} (cond b (Err x) (Err y)) (Ok Same) → ⊥
busy_same true x y h = cc
busy_same false x y h = cc

beside_if : (b : Bool) (s e : Entry) → cond b (stage_again s e) (stage_busy s.id e.id) ≡ Ok Same → (b ≡ true) × (is_same_update s e ≡ true)
beside_if true s e h = (refl, again_same (is_same_update s e) (Clash e.id) h)
beside_if false s e h = absurd (busy_same (nat_lt e.id.serial s.id.serial) (Past s.id.serial) (Unfinished s.id) h)

beside_same : (o : Option Entry) (last : ℕ) (e : Entry) → stage_beside o last e ≡ Ok Same → (s : Entry) × (o ≡ Some s) × (same_id s.id e.id ≡ true) × (is_same_update s e ≡ true)
beside_same None last e h = absurd (after_same (nat_lt e.id.serial last) last h)
beside_same (Some s) last e h = let p = beside_if (same_id s.id e.id) s e h in (s, refl, p.0, p.1)

known_same : (o : Option ℕ) (log : Log) (e : Entry) → stage_known o log e ≡ Ok Same → (s : Entry) × (staged_by log.staged e.id.member.0 ≡ Some s) × (same_id s.id e.id ≡ true) × (is_same_update s e ≡ true)
known_same (Some n) log e h = absurd cc
known_same None log e h = beside_same (staged_by log.staged e.id.member.0) (last_of log.ids e.id.member.0) e h

after_done : (b : Bool) (last n : ℕ) → ◌≡◌ {A = Result StagePlan Refusal} (cond b (Err (Past last)) (Ok New)) (Ok (Done n)) → ⊥
after_done true last n h = cc
after_done false last n h = cc

two_done : (b : Bool) (x y : Result StagePlan Refusal) (n : ℕ) → (x ≡ Ok (Done n) → ⊥) → (y ≡ Ok (Done n) → ⊥) → cond b x y ≡ Ok (Done n) → ⊥
two_done true x y n f g h = f h
two_done false x y n f g h = g h

pub beside_done : (o : Option Entry) (last : ℕ) (e : Entry) (n : ℕ) → stage_beside o last e ≡ Ok (Done n) → ⊥
beside_done None last e n h = after_done (nat_lt e.id.serial last) last n h
beside_done (Some s) last e n h =
    two_done (same_id s.id e.id) (stage_again s e) (stage_busy s.id e.id) n
    (two_done (is_same_update s e) (Ok Same) (Err (Clash e.id)) n (λ x. cc) (λ x. cc))
    (two_done (nat_lt e.id.serial s.id.serial) (Err (Past s.id.serial)) (Err (Unfinished s.id)) n (λ x. cc) (λ x. cc)) h

known_done : (o : Option ℕ) (log : Log) (e : Entry) (n : ℕ) → stage_known o log e ≡ Ok (Done n) → (m : ℕ) × (o ≡ Some m)
known_done (Some m) log e n h = (m, refl)
known_done None log e n h = absurd (beside_done (staged_by log.staged e.id.member.0) (last_of log.ids e.id.member.0) e n h)

stage_has : (log : Log) (e : Entry) (ops : List Op) (r : Result StagePlan Refusal) → IsMadeBy log ops → look_stage log e ≡ r → refusal_in r ≡ None → HasStaged log e (with_made ops (op_of_stage e r))
stage_has log e ops (Ok New) k is h = record { entry = e; has = has_last (Stages e) ops; id = refl; same = λ none. (refl, refl) }
stage_has log e ops (Ok Same) k is h =
    let s = known_same (number_of log.ids e.id) log e (known log e Same is) in
    record { entry = s.0; has = k.staged e.id.member.0 s.0 s.1; id = same_id-true s.0.id e.id s.2; same = λ none. (update_decides s.0 e).0 s.3 }
stage_has log e ops (Ok (Done n)) k is h =
    let m = known_done (number_of log.ids e.id) log e n (known log e (Done n) is) in
    let made = k.made (m.0 - 1) e.id (number_there log.ids e.id 1 m.0 m.1).1 in
    record { entry = made.0; has = made.1; id = made.2; same = λ none. absurd (let both : Some m.0 ≡ None = sym m.1 ∙ none in cc) }
stage_has log e ops (Err code) k is h = absurd cc

-- ---- Order and Follow

none_again : (o : Option Entry) (len : ℕ) (id : UpdateId) (n : ℕ) → order_staged o len id ≡ Ok (Again n) → ⊥
none_again None len id n h = cc
none_again (Some e) len id n h = two (nat_lt len 1048576) h
  where
    two : (b : Bool) → ◌≡◌ {A = Result Plan Refusal} (cond b (Ok (Fresh (len + 1))) (Err HistoryFull)) (Ok (Again n)) → ⊥
    two true h = cc
    two false h = cc

known_again : (o : Option ℕ) (log : Log) (id : UpdateId) (n : ℕ) → order_known o log id ≡ Ok (Again n) → (m : ℕ) × (o ≡ Some m)
known_again (Some m) log id n h = (m, refl)
known_again None log id n h = absurd (none_again (staged_as log.staged id) (length log.ids) id n h)

order_again : (role : Side) (log : Log) (id : UpdateId) (n : ℕ) → order_as role log id ≡ Ok (Again n) → (m : ℕ) × (number_of log.ids id ≡ Some m)
order_again Following log id n h = absurd cc
order_again Lead log id n h = known_again (number_of log.ids id) log id n h

order_has : (log : Log) (id : UpdateId) (ops : List Op) (r : Result Plan Refusal) → IsMadeBy log ops → look_order log id ≡ r → refusal_in r ≡ None → (number : ℕ) × Has (Appends number id) (with_made ops (op_of_plan id r))
order_has log id ops (Ok (Fresh n)) k is h = (n, has_last (Appends n id) ops)
order_has log id ops (Ok (Again n)) k is h =
    let m = order_again log.role log id n is in
    (m.0 - 1 + 1, k.given (m.0 - 1) id (number_there log.ids id 1 m.0 m.1).1)
order_has log id ops (Err code) k is h = absurd cc

get_none : (ids : List UpdateId) (i : ℕ) → slice_get ids i ≡ None → length ids ≤ i
get_none [] i h = omega arith
get_none (x ∷ ids) zero h = absurd cc
get_none (x ∷ ids) (suc i) h = omega (arith, get_none ids i h)

staged_again : (o : Option Entry) (m : ℕ) (id : UpdateId) (n : ℕ) → follow_staged o m id ≡ Ok (Again n) → ⊥
staged_again None m id n h = cc
staged_again (Some e) m id n h = cc

gap_again : (b : Bool) (log : Log) (m n : ℕ) (id : UpdateId) → cond b (Err (Gap (length log.ids))) (follow_staged (staged_as log.staged id) m id) ≡ Ok (Again n) → ⊥
gap_again true log m n id h = cc
gap_again false log m n id h = staged_again (staged_as log.staged id) m id n h

beyond_again : (o : Option ℕ) (log : Log) (m n : ℕ) (id : UpdateId) → follow_known o log m id ≡ Ok (Again n) → ⊥
beyond_again (Some own) log m n id h = cc
beyond_again None log m n id h = gap_again (nat_lt (length log.ids + 1) m) log m n id h

same_again : (b : Bool) (m n : ℕ) (code : Refusal) → ◌≡◌ {A = Result Plan Refusal} (cond b (Ok (Again m)) (Err code)) (Ok (Again n)) → b ≡ true
same_again true m n code h = refl
same_again false m n code h = absurd cc

within_again : (log : Log) (o : Option UpdateId) (m n : ℕ) (id : UpdateId) → slice_get log.ids (m - 1) ≡ o → 1 ≤ m → m ≤ length log.ids → follow_again o m id ≡ Ok (Again n) → slice_get log.ids (m - 1) ≡ Some id
within_again log None m n id is some few h = absurd (omega (arith, some, few, get_none log.ids (m - 1) is))
within_again log (Some x) m n id is some few h = is ∙ ap Some (same_id-true x id (same_again (same_id x id) m n (Taken m x) h))

within_if : (b : Bool) (log : Log) (m n : ℕ) (id : UpdateId) → nat_lt (length log.ids) m ≡ b → 1 ≤ m
    → cond b (follow_known (number_of log.ids id) log m id) (follow_again (slice_get log.ids (m - 1)) m id) ≡ Ok (Again n) → slice_get log.ids (m - 1) ≡ Some id
within_if true log m n id t some h = absurd (beyond_again (number_of log.ids id) log m n id h)
within_if false log m n id t some h = within_again log (slice_get log.ids (m - 1)) m n id refl some (ltb-false (length log.ids) m t) h

follow_again_seen : (role : Side) (log : Log) (m n : ℕ) (id : UpdateId) → 1 ≤ m → follow_as role log m id ≡ Ok (Again n) → slice_get log.ids (m - 1) ≡ Some id
follow_again_seen Lead log m n id some h = absurd cc
follow_again_seen Following log m n id some h = within_if (nat_lt (length log.ids) m) log m n id refl some h

follow_has : (log : Log) (m : ℕ) (id : UpdateId) (ops : List Op) (r : Result Plan Refusal) → 1 ≤ m → IsMadeBy log ops → look_follow log m id ≡ r → refusal_in r ≡ None → Has (Appends m id) (with_made ops (op_of_plan id r))
follow_has log m id ops (Ok (Fresh n)) some k is h =
    subst (λ (x : ℕ). Has (Appends m id) (ops ++ Appends x id ∷ [])) (follow_seen log m n id is).1 (has_last (Appends m id) ops)
follow_has log m id ops (Ok (Again n)) some k is h =
    let number : m - 1 + 1 ≡ m = omega (arith, some) in
    subst (λ (x : ℕ). Has (Appends x id) ops) number (k.given (m - 1) id (follow_again_seen log.role log m n id some is))
follow_has log m id ops (Err code) some k is h = absurd cc

-- what was asked and not refused is among the operations, with what it made
pub asked_has : (log : Log) (want : Want) (ops : List Op) → IsMadeBy log ops → IsWant want → refusal_of log want ≡ None → HasAsked log want (with_made ops (op_made log want))
asked_has log Latest ops k range h = tt
asked_has log (Search version shape keys) ops k range h = tt
asked_has log (Which number) ops k range h = tt
asked_has log (Stage e) ops k range h = stage_has log e ops (look_stage log e) k refl h
asked_has log (Order id) ops k range h = order_has log id ops (look_order log id) k refl h
asked_has log (Follow number id) ops k range h = follow_has log number id ops (look_follow log number id) range.0.some k refl h
