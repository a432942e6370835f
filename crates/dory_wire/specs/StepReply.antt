-- What a folder answers to each request, and what it is afterwards.
use Rattle.std.specs.Prelude.{ℕ, ◌≡◌, ⊤, ◌⊎◌, length, Option, Some, None, Result, Ok, Err}
use Rattle.dory_base.specs.declared.ids.UpdateId.{UpdateId}
use Rattle.dory_base.specs.declared.plan.StagePlan.{StagePlan}
use Rattle.dory_base.specs.declared.plan.StagePlan.TheVariants.{New, Same, Done}
use Rattle.dory_base.specs.declared.plan.Plan.{Plan}
use Rattle.dory_base.specs.declared.plan.Plan.TheVariants.{Again, Fresh}
use Rattle.dory_base.specs.declared.refusal.Refusal.{Refusal}
use Rattle.dory_base.specs.declared.refusal.Refusal.TheVariants.{NoMemory}
use Rattle.dory_base.specs.Log.{Log, look_stage, look_order, look_follow, which}
use Rattle.dory_base.specs.declared.event.Event.{Event}
use Rattle.dory_base.specs.Step.{State, log_of, event_of_stage, event_of_plan, after_maybe}
use Rattle.dory_wire.specs.declared.message.Want.{Want}
use Rattle.dory_wire.specs.declared.message.Want.TheVariants.{Latest, Search, Which, Stage, Order, Follow}
use Rattle.dory_wire.specs.declared.message.What.{What}
use Rattle.dory_wire.specs.declared.message.What.TheVariants.{At, Found as Finds, Id, Staged, Committed, Refused}
use Rattle.dory_wire.specs.Read.{search_of}

-- the answer to a request to stage an update of this id
abbrev pub stage_answer : UpdateId → Result StagePlan Refusal → What
stage_answer id (Ok New) = Staged id
stage_answer id (Ok Same) = Staged id
stage_answer id (Ok (Done number)) = Committed number id
stage_answer id (Err code) = Refused code

-- the answer to a request to commit the update of this id
abbrev pub commit_answer : UpdateId → Result Plan Refusal → What
commit_answer id (Ok (Fresh number)) = Committed number id
commit_answer id (Ok (Again number)) = Committed number id
commit_answer id (Err code) = Refused code

-- the answer to the question which update has this number
abbrev pub which_answer : ℕ → Result UpdateId Refusal → What
which_answer number (Ok id) = Id number id
which_answer number (Err code) = Refused code

-- the answer of a folder
abbrev pub answer_of : State → Want → What
answer_of s Latest = At (length s.history)
answer_of s (Search number asked keys) = search_of s.shape s.retained s.history number asked keys
answer_of s (Which number) = which_answer number (which (log_of s) number)
answer_of s (Stage e) = stage_answer e.id (look_stage (log_of s) e)
answer_of s (Order id) = commit_answer id (look_order (log_of s) id)
answer_of s (Follow number id) = commit_answer id (look_follow (log_of s) number id)

-- the event that a request makes, if it makes one
abbrev pub event_of : Log → Want → Option Event
event_of log Latest = None
event_of log (Search number asked keys) = None
event_of log (Which number) = None
event_of log (Stage e) = event_of_stage e (look_stage log e)
event_of log (Order id) = event_of_plan id (look_order log id)
event_of log (Follow number id) = event_of_plan id (look_follow log number id)

-- one step: the folder after it, and the answer
abbrev pub step_of : State → Want → State × What
step_of s want = (after_maybe s (event_of (log_of s) want), answer_of s want)

-- a Found takes memory, and no other answer does by itself
abbrev pub IsFinding : What → Type 0
IsFinding (Finds f) = ⊤
IsFinding (At length) = ⊥
IsFinding (Id number id) = ⊥
IsFinding (Staged id) = ⊥
IsFinding (Committed number id) = ⊥
IsFinding (Refused code) = ⊥

-- an event takes memory
abbrev pub IsEventful : Option Event → Type 0
IsEventful (Some event) = ⊤
IsEventful None = ⊥

-- the folder stepped as it has to
pub record Stepped (s : State) (want : Want) (what : What) (next : State) : Type 0 where
  pub answer : what ≡ answer_of s want
  pub now : next ≡ after_maybe s (event_of (log_of s) want)

-- memory ran out, where a step finds, stages or appends; nothing changed
pub record RanOut (s : State) (want : Want) (what : What) (next : State) : Type 0 where
  pub takes : IsFinding (answer_of s want) ⊎ IsEventful (event_of (log_of s) want)
  pub answer : what ≡ Refused NoMemory
  pub now : next ≡ s

-- what a folder does at a request
abbrev pub Steps : State → Want → What → State → Type 0
Steps s want what next = Stepped s want what next ⊎ RanOut s want what next
