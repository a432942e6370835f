-- What a folder answers is within the ranges of a message.
use Rattle.std.proofs.Common.{◌≡◌, ℕ, zero, suc, ◌<◌, ◌≤◌, ◌+◌, ◌-◌, ◌^◌, Bool, true, false, cond, eqb, List, [], ◌∷◌, length, Option, Some, None, Result, Ok, Err, arith, ap, ◌∙◌, sym, subst, refl, ltb-false, ltb-true}
use Rattle.std.specs.Prelude.{nat_lt, slice_get}
use Rattle.std.specs.List.{AllByRecursion}
use Rattle.dory_base.specs.Dims.{IsDims}
use Rattle.dory_base.specs.declared.ids.Side.{Side}
use Rattle.dory_base.specs.declared.ids.Side.TheVariants.{Lead, Follow}
use Rattle.dory_base.specs.declared.ids.UpdateId.{UpdateId}
use Rattle.dory_base.specs.declared.entry.Entry.{Entry}
use Rattle.dory_base.specs.declared.refusal.Refusal.{Refusal}
use Rattle.dory_base.specs.declared.refusal.Refusal.TheVariants.{ShapeWrong, BadMember, Past, Clash, Unfinished, Taken, Gap, HistoryFull}
use Rattle.dory_base.specs.declared.plan.StagePlan.{StagePlan}
use Rattle.dory_base.specs.declared.plan.StagePlan.TheVariants.{New, Same}
use Rattle.dory_base.specs.declared.plan.Plan.{Plan}
use Rattle.dory_base.specs.declared.plan.Plan.TheVariants.{Again, Fresh}
use Rattle.dory_base.specs.SameUpdate.{is_same_update}
use Rattle.dory_base.specs.Log.{Log, same_id, number_of, last_after, last_of, staged_by, staged_as, has_shape, stage_again, stage_busy, stage_beside, stage_known, look_stage, order_staged, order_known, order_as, look_order, follow_staged, follow_known, follow_again, follow_as, look_follow, which_at, which}
use Rattle.dory_base.specs.Step.{State, log_of, IsMembersId, IsAbove, IsPlace, IsLog}
use Rattle.dory_base.proofs.IdLaws.{number_there}
use Rattle.dory_wire.specs.Spelling.{IsNumber, IsWhat, IsId as IsCarried}
use Rattle.dory_wire.specs.StepReply.{stage_answer, commit_answer, which_answer}

-- the id of one of the 64 members is one that a message can carry
carried : (id : UpdateId) → IsMembersId id → IsCarried id
carried id is = record { member = omega (arith, is.member); some = is.serial.some; serial = is.serial.few }

above_carried : (ids : List UpdateId) (member : ℕ) (id : UpdateId) → member ≤ 63 → IsAbove ids member id → IsCarried id
above_carried ids member id low is = record { member = let e = is.own in omega arith; some = is.serial.some; serial = is.serial.few }

got : (xs : List UpdateId) (k : ℕ) (x : UpdateId) → AllByRecursion IsMembersId xs → slice_get xs k ≡ Some x → IsMembersId x × (k < length xs)
got [] k x all is = absurd (cc)
got (y ∷ xs) zero x all is = let e : y ≡ x = cc in (subst IsMembersId e all.0, omega arith)
got (y ∷ xs) (suc k) x all is = let more = got xs k x all.1 is in (more.0, omega (arith, more.1))

-- the number of an id
pub number_range : (log : Log) (id : UpdateId) (n : ℕ) → IsLog log → number_of log.ids id ≡ Some n → IsNumber n
number_range log id n is e =
    let at = number_there log.ids id 1 n e in
    let inside = got log.ids (n - 1) id is.ids at.1 in
    record { some = at.0; few = omega (arith, at.0, inside.1, is.few) }

-- ---- Which

which_read : (log : Log) (number : ℕ) (o : Option UpdateId) → IsLog log → IsNumber number → slice_get log.ids (number - 1) ≡ o → IsWhat (which_answer number (which_at o (length log.ids)))
which_read log number None is n e = is.few
which_read log number (Some x) is n e = (n, carried x (got log.ids (number - 1) x is.ids e).0)

pub which_range : (log : Log) (number : ℕ) → IsLog log → IsNumber number → IsWhat (which_answer number (which log number))
which_range log number is n = which_read log number (slice_get log.ids (number - 1)) is n refl

-- ---- Stage

stage_if : (b : Bool) (id : UpdateId) (x y : Result StagePlan Refusal) → IsWhat (stage_answer id x) → IsWhat (stage_answer id y) → IsWhat (stage_answer id (cond b x y))
stage_if true id x y p q = p
stage_if false id x y p q = q

stage_placed : (log : Log) (e : Entry) (o : Option Entry) → IsLog log → e.id.member.0 ≤ 63 → IsCarried e.id → IsPlace log.ids e.id.member.0 o → last_of log.ids e.id.member.0 < 2 ^ 64
    → IsWhat (stage_answer e.id (stage_beside o (last_of log.ids e.id.member.0) e))
stage_placed log e None is low c above few =
    stage_if (nat_lt e.id.serial (last_of log.ids e.id.member.0)) e.id (Err (Past (last_of log.ids e.id.member.0))) (Ok New) few c
stage_placed log e (Some s) is low c above few =
    stage_if (same_id s.id e.id) e.id (stage_again s e) (stage_busy s.id e.id)
    (stage_if (is_same_update s e) e.id (Ok Same) (Err (Clash e.id)) c c)
    (stage_if (nat_lt e.id.serial s.id.serial) e.id (Err (Past s.id.serial)) (Err (Unfinished s.id)) above.serial.few (above_carried log.ids e.id.member.0 s.id low above))

stage_numbered : (log : Log) (e : Entry) (o : Option ℕ) → IsLog log → e.id.member.0 ≤ 63 → IsCarried e.id → last_of log.ids e.id.member.0 < 2 ^ 64 → number_of log.ids e.id ≡ o
    → IsWhat (stage_answer e.id (stage_known o log e))
stage_numbered log e None is low c few eq = stage_placed log e (staged_by log.staged e.id.member.0) is low c (is.above e.id.member.0) few
stage_numbered log e (Some n) is low c few eq = (number_range log e.id n is eq, c)

last_few : (ids : List UpdateId) (member serial : ℕ) → AllByRecursion IsMembersId ids → serial < 2 ^ 64 → last_after serial ids member < 2 ^ 64
last_few [] member serial all h = h
last_few (x ∷ ids) member serial all h = last_few ids member (cond (eqb x.member.0 member) x.serial serial) all.1 (of_either (eqb x.member.0 member))
  where
    of_either : (b : Bool) → cond b x.serial serial < 2 ^ 64
    of_either true = all.0.serial.few
    of_either false = h

pub stage_range : (log : Log) (e : Entry) → IsLog log → IsDims log.shape → IsCarried e.id → IsWhat (stage_answer e.id (look_stage log e))
stage_range log e is dims c = by (nat_lt 63 e.id.member.0) refl
  where
    by : (b : Bool) → nat_lt 63 e.id.member.0 ≡ b → IsWhat (stage_answer e.id (cond b (Err (BadMember e.id.member)) (cond (has_shape log.shape e.change) (stage_known (number_of log.ids e.id) log e) (Err (ShapeWrong log.shape.depth log.shape.probes)))))
    by true h = c.member
    by false h =
        let low : e.id.member.0 ≤ 63 = ltb-false 63 e.id.member.0 h in
        stage_if (has_shape log.shape e.change) e.id (stage_known (number_of log.ids e.id) log e) (Err (ShapeWrong log.shape.depth log.shape.probes))
        (stage_numbered log e (number_of log.ids e.id) is low c (last_few log.ids e.id.member.0 0 is.ids (omega arith)) refl)
        (dims.low, dims.high, dims.some, dims.few)

-- ---- Order and Follow

commit_if : (b : Bool) (id : UpdateId) (x y : Result Plan Refusal) → IsWhat (commit_answer id x) → IsWhat (commit_answer id y) → IsWhat (commit_answer id (cond b x y))
commit_if true id x y p q = p
commit_if false id x y p q = q

order_placed : (log : Log) (id : UpdateId) (o : Option Entry) → IsLog log → IsCarried id → IsWhat (commit_answer id (order_staged o (length log.ids) id))
order_placed log id None is c = c
order_placed log id (Some e) is c = by (nat_lt (length log.ids) 1048576) refl
  where
    by : (b : Bool) → nat_lt (length log.ids) 1048576 ≡ b → IsWhat (commit_answer id (cond b (Ok (Fresh (length log.ids + 1))) (Err HistoryFull)))
    by true h = let few : length log.ids < 1048576 = ltb-true (length log.ids) 1048576 h in (record { some = omega arith; few = omega arith }, c)
    by false h = tt

order_numbered : (log : Log) (id : UpdateId) (o : Option ℕ) → IsLog log → IsCarried id → number_of log.ids id ≡ o → IsWhat (commit_answer id (order_known o log id))
order_numbered log id None is c eq = order_placed log id (staged_as log.staged id) is c
order_numbered log id (Some n) is c eq = (number_range log id n is eq, c)

order_by_role : (log : Log) (id : UpdateId) (role : Side) → IsLog log → IsCarried id → IsWhat (commit_answer id (order_as role log id))
order_by_role log id Lead is c = order_numbered log id (number_of log.ids id) is c refl
order_by_role log id Follow is c = tt

pub order_range : (log : Log) (id : UpdateId) → IsLog log → IsCarried id → IsWhat (commit_answer id (look_order log id))
order_range log id is c = order_by_role log id log.role is c

follow_placed : (number : ℕ) (id : UpdateId) (o : Option Entry) → IsNumber number → IsCarried id → IsWhat (commit_answer id (follow_staged o number id))
follow_placed number id None n c = c
follow_placed number id (Some e) n c = (n, c)

follow_numbered : (log : Log) (number : ℕ) (id : UpdateId) (o : Option ℕ) → IsLog log → IsNumber number → IsCarried id → number_of log.ids id ≡ o → IsWhat (commit_answer id (follow_known o log number id))
follow_numbered log number id None is n c eq =
    commit_if (nat_lt (length log.ids + 1) number) id (Err (Gap (length log.ids))) (follow_staged (staged_as log.staged id) number id) is.few (follow_placed number id (staged_as log.staged id) n c)
follow_numbered log number id (Some own) is n c eq = (number_range log id own is eq, c)

follow_within : (log : Log) (number : ℕ) (id : UpdateId) (o : Option UpdateId) → IsLog log → IsNumber number → IsCarried id → slice_get log.ids (number - 1) ≡ o → IsWhat (commit_answer id (follow_again o number id))
follow_within log number id None is n c eq = (n, c)
follow_within log number id (Some x) is n c eq =
    commit_if (same_id x id) id (Ok (Again number)) (Err (Taken number x)) (n, c) (n, carried x (got log.ids (number - 1) x is.ids eq).0)

follow_by_role : (log : Log) (number : ℕ) (id : UpdateId) (role : Side) → IsLog log → IsNumber number → IsCarried id → IsWhat (commit_answer id (follow_as role log number id))
follow_by_role log number id Lead is n c = tt
follow_by_role log number id Follow is n c =
    commit_if (nat_lt (length log.ids) number) id (follow_known (number_of log.ids id) log number id) (follow_again (slice_get log.ids (number - 1)) number id)
    (follow_numbered log number id (number_of log.ids id) is n c refl)
    (follow_within log number id (slice_get log.ids (number - 1)) is n c refl)

pub follow_range : (log : Log) (number : ℕ) (id : UpdateId) → IsLog log → IsNumber number → IsCarried id → IsWhat (commit_answer id (look_follow log number id))
follow_range log number id is n c = follow_by_role log number id log.role is n c

-- ---- what a folder says when a look found this

pub stage_says : (log : Log) (e : Entry) (r : Result StagePlan Refusal) (s : State) → IsLog (log_of s) → log ≡ log_of s → IsDims s.shape → IsCarried e.id → r ≡ look_stage log e → IsWhat (stage_answer e.id r)
stage_says log e r s is same dims c found =
    subst (λ (x : Result StagePlan Refusal). IsWhat (stage_answer e.id x)) (sym (found ∙ ap (λ (l : Log). look_stage l e) same)) (stage_range (log_of s) e is dims c)

pub order_says : (log : Log) (id : UpdateId) (r : Result Plan Refusal) (s : State) → IsLog (log_of s) → log ≡ log_of s → IsCarried id → r ≡ look_order log id → IsWhat (commit_answer id r)
order_says log id r s is same c found =
    subst (λ (x : Result Plan Refusal). IsWhat (commit_answer id x)) (sym (found ∙ ap (λ (l : Log). look_order l id) same)) (order_range (log_of s) id is c)

pub follow_says : (log : Log) (number : ℕ) (id : UpdateId) (r : Result Plan Refusal) (s : State) → IsLog (log_of s) → log ≡ log_of s → IsNumber number → IsCarried id → r ≡ look_follow log number id → IsWhat (commit_answer id r)
follow_says log number id r s is same n c found =
    subst (λ (x : Result Plan Refusal). IsWhat (commit_answer id x)) (sym (found ∙ ap (λ (l : Log). look_follow l number id) same)) (follow_range (log_of s) number id is n c)

pub which_says : (log : Log) (number : ℕ) (r : Result UpdateId Refusal) (s : State) → IsLog (log_of s) → log ≡ log_of s → IsNumber number → r ≡ which log number → IsWhat (which_answer number r)
which_says log number r s is same n found =
    subst (λ (x : Result UpdateId Refusal). IsWhat (which_answer number x)) (sym (found ∙ ap (λ (l : Log). which l number) same)) (which_range (log_of s) number is n)
