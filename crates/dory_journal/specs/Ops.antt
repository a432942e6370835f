-- What a journal keeps of a folder: operations, each of which the folder makes after those before it.
use Rattle.std.specs.Prelude.{ℕ, ◌≡◌, ◌⊎◌, ⊤, ◌==◌, Bool, true, false, List, [], ◌∷◌, Option, Some, None, Result, Ok, Err}
use Rattle.dory_base.specs.Log.{Log, look_stage, look_order, look_follow}
use Rattle.dory_base.specs.Step.{log_after}
use Rattle.dory_base.specs.declared.event.Event.{Event}
use Rattle.dory_base.specs.declared.event.Event.TheVariants.{Staged, Appended}
use Rattle.dory_base.specs.declared.ids.Side.{Side}
use Rattle.dory_base.specs.declared.ids.Side.TheVariants.{Lead, Follow as Following}
use Rattle.dory_base.specs.declared.ids.UpdateId.{UpdateId}
use Rattle.dory_base.specs.declared.entry.Entry.{Entry}
use Rattle.dory_base.specs.declared.plan.StagePlan.{StagePlan}
use Rattle.dory_base.specs.declared.plan.StagePlan.TheVariants.{New, Same, Done}
use Rattle.dory_base.specs.declared.plan.Plan.{Plan}
use Rattle.dory_base.specs.declared.plan.Plan.TheVariants.{Again, Fresh}
use Rattle.dory_base.specs.declared.refusal.Refusal.{Refusal}
use Rattle.dory_wire.specs.declared.message.Want.{Want}
use Rattle.dory_wire.specs.declared.message.Want.TheVariants.{Latest, Search, Which, Stage, Order, Follow}

-- what happened to a folder: this update was staged, or the staged update of this id was given this number
pub data Op : Type 0 where
  Stages : Entry → Op
  Appends : ℕ → UpdateId → Op

-- the same as an event
abbrev pub event_of_op : Op → Event
event_of_op (Stages e) = Staged e
event_of_op (Appends number id) = Appended id

-- the log after an operation
abbrev pub log_after_op : Log → Op → Log
log_after_op log op = log_after log (event_of_op op)

-- an operation is one of these
abbrev pub Has : Op → List Op → Type 0
Has op [] = ⊥
Has op (x ∷ ops) = (op ≡ x) ⊎ Has op ops

-- ---- what is lawful

-- a look finds the update new
abbrev pub is_new : Result StagePlan Refusal → Bool
is_new (Ok New) = true
is_new (Ok Same) = false
is_new (Ok (Done number)) = false
is_new (Err code) = false

-- a look gives this number
abbrev pub is_fresh : ℕ → Result Plan Refusal → Bool
is_fresh number (Ok (Fresh next)) = next == number
is_fresh number (Ok (Again own)) = false
is_fresh number (Err code) = false

-- the number that a fresh plan gives
abbrev pub fresh_number : Result Plan Refusal → Option ℕ
fresh_number (Ok (Fresh next)) = Some next
fresh_number (Ok (Again own)) = None
fresh_number (Err code) = None

-- a lead orders, and a follower follows
abbrev pub look_append : Side → Log → ℕ → UpdateId → Result Plan Refusal
look_append Lead log number id = look_order log id
look_append Following log number id = look_follow log number id

-- the operation is one that the log's folder makes
abbrev pub may : Log → Op → Bool
may log (Stages e) = is_new (look_stage log e)
may log (Appends number id) = is_fresh number (look_append log.role log number id)

-- each operation is one that the folder makes after those before it
abbrev pub AreLawful : Log → List Op → Type 0
AreLawful log [] = ⊤
AreLawful log (op ∷ ops) = (may log op ≡ true) × AreLawful (log_after_op log op) ops

-- ---- how they are asked

-- what asks for an operation
abbrev pub want_of_op : Op → Want
want_of_op (Stages e) = Stage e
want_of_op (Appends number id) = Follow number id

-- the operation that is asked for so, if it is one
abbrev pub op_of_want : Want → Option Op
op_of_want Latest = None
op_of_want (Search version shape keys) = None
op_of_want (Which number) = None
op_of_want (Stage e) = Some (Stages e)
op_of_want (Order id) = None
op_of_want (Follow number id) = Some (Appends number id)

-- an operation is there
abbrev pub has_op : Option Op → Bool
has_op None = false
has_op (Some op) = true
