-- What a request to stage or to commit makes of a folder, and what of it is kept once it is acknowledged.
use Rattle.std.specs.Prelude.{ℕ, ◌≡◌, ⊤, List, [], ◌∷◌, ◌++◌, Option, Some, None, Result, Ok, Err}
use Rattle.dory_base.specs.Log.{Log, number_of, look_stage, look_order, look_follow}
use Rattle.dory_base.specs.declared.ids.UpdateId.{UpdateId}
use Rattle.dory_base.specs.declared.entry.Entry.{Entry}
use Rattle.dory_base.specs.declared.plan.StagePlan.{StagePlan}
use Rattle.dory_base.specs.declared.plan.StagePlan.TheVariants.{New, Same, Done}
use Rattle.dory_base.specs.declared.plan.Plan.{Plan}
use Rattle.dory_base.specs.declared.plan.Plan.TheVariants.{Again, Fresh}
use Rattle.dory_base.specs.declared.refusal.Refusal.{Refusal}
use Rattle.dory_wire.specs.declared.message.Want.{Want}
use Rattle.dory_wire.specs.declared.message.Want.TheVariants.{Latest, Search, Which, Stage, Order, Follow}
use Rattle.dory_journal.specs.Ops.{Op, Stages, Appends, Has, log_after_op}

-- a request to stage or to commit
abbrev pub IsKept : Want → Type 0
IsKept Latest = ⊥
IsKept (Search version shape keys) = ⊥
IsKept (Which number) = ⊥
IsKept (Stage e) = ⊤
IsKept (Order id) = ⊤
IsKept (Follow number id) = ⊤

-- a new update is staged
abbrev pub op_of_stage : Entry → Result StagePlan Refusal → Option Op
op_of_stage e (Ok New) = Some (Stages e)
op_of_stage e (Ok Same) = None
op_of_stage e (Ok (Done number)) = None
op_of_stage e (Err code) = None

-- an update is given a fresh number
abbrev pub op_of_plan : UpdateId → Result Plan Refusal → Option Op
op_of_plan id (Ok (Fresh number)) = Some (Appends number id)
op_of_plan id (Ok (Again number)) = None
op_of_plan id (Err code) = None

-- the operation that a request makes, if it makes one
abbrev pub op_made : Log → Want → Option Op
op_made log Latest = None
op_made log (Search version shape keys) = None
op_made log (Which number) = None
op_made log (Stage e) = op_of_stage e (look_stage log e)
op_made log (Order id) = op_of_plan id (look_order log id)
op_made log (Follow number id) = op_of_plan id (look_follow log number id)

-- why a look refused
abbrev pub refusal_in : {A : Type 0} → Result A Refusal → Option Refusal
refusal_in (Ok plan) = None
refusal_in (Err code) = Some code

-- how a request to stage or to commit is refused, if it is
abbrev pub refusal_of : Log → Want → Option Refusal
refusal_of log Latest = None
refusal_of log (Search version shape keys) = None
refusal_of log (Which number) = None
refusal_of log (Stage e) = refusal_in (look_stage log e)
refusal_of log (Order id) = refusal_in (look_order log id)
refusal_of log (Follow number id) = refusal_in (look_follow log number id)

-- the number at which a look finds an update committed
abbrev pub done_number : Result StagePlan Refusal → Option ℕ
done_number (Ok New) = None
done_number (Ok Same) = None
done_number (Ok (Done number)) = Some number
done_number (Err code) = None

-- the operations, with one more where one was made
abbrev pub with_made : List Op → Option Op → List Op
with_made ops None = ops
with_made ops (Some op) = ops ++ op ∷ []

-- the log after what was made
abbrev pub log_after_made : Log → Option Op → Log
log_after_made log None = log
log_after_made log (Some op) = log_after_op log op

-- an update of this id was staged, with the request's document and change unless it was committed before that
pub record HasStaged (log : Log) (e : Entry) (ops : List Op) : Type 0 where
  pub entry : Entry
  pub has : Has (Stages entry) ops
  pub id : entry.id ≡ e.id
  pub same : number_of log.ids e.id ≡ None → (entry.doc ≡ e.doc) × (entry.change ≡ e.change)

-- what a request asked for, of a folder whose log was this, is among the operations
abbrev pub HasAsked : Log → Want → List Op → Type 0
HasAsked log Latest ops = ⊤
HasAsked log (Search version shape keys) ops = ⊤
HasAsked log (Which number) ops = ⊤
HasAsked log (Stage e) ops = HasStaged log e ops
HasAsked log (Order id) ops = (number : ℕ) × Has (Appends number id) ops
HasAsked log (Follow number id) ops = Has (Appends number id) ops
