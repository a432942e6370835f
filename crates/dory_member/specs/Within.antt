-- What is true of every run: numbers in range, and few steps.
use Rattle.std.specs.Prelude.{ℕ, ◌≡◌, ◌+◌, ◌*◌, ◌≤◌, ◌<◌, ◌^◌, true, false, [], ◌∷◌, length, Some, None}
use Rattle.dory_base.specs.Dims.{Dims, IsDims}
use Rattle.dory_state.specs.Spelling.{IsKeptState}
use Rattle.dory_wire.specs.Spelling.{IsEntry, IsId, IsNumber, AreKeys}
use Rattle.dory_query.specs.declared.query.Query.{Query}
use Rattle.dory_member.specs.declared.command.Command.{Command}
use Rattle.dory_member.specs.declared.command.Command.TheVariants as command
use Rattle.dory_member.specs.declared.outcome.Mark.{Mark}
use Rattle.dory_member.specs.declared.outcome.Outcome.{Outcome}
use Rattle.dory_member.specs.declared.outcome.Outcome.TheVariants.{Posted, Removed, Accepted, NothingPending, Lengths, Rotated, Failed}
use Rattle.dory_member.specs.declared.phase.UpdateStep.{UpdateStep}
use Rattle.dory_member.specs.declared.phase.UpdateStep.TheVariants.{StageFollow, StageLead, OrderLead, FollowOn, WhichOther, FollowOther}
use Rattle.dory_member.specs.declared.phase.Single.{Single}
use Rattle.dory_member.specs.declared.phase.Single.TheVariants as single
use Rattle.dory_member.specs.declared.phase.Phase.{Phase}
use Rattle.dory_member.specs.declared.phase.Phase.TheVariants.{Updating, Measuring, Searching, Ended}
use Rattle.dory_member.specs.declared.phase.Run.{Run}
use Rattle.dory_member.specs.Course.{name}

-- the row of a post has a bit for each column
abbrev pub FitsCommand : Dims → Command → Type 0
FitsCommand shape (command.Post doc row) = length row ≡ 2 ^ shape.depth
FitsCommand shape (command.Remove doc) = Unit {0}
FitsCommand shape (command.Search word) = Unit {0}
FitsCommand shape command.Resume = Unit {0}
FitsCommand shape command.Latest = Unit {0}
FitsCommand shape command.Rotate = Unit {0}

-- the numbers of an update's step are in range
abbrev pub IsInRange : UpdateStep → Type 0
IsInRange StageFollow = Unit {0}
IsInRange StageLead = Unit {0}
IsInRange OrderLead = Unit {0}
IsInRange (FollowOn number repaired) = IsNumber number
IsInRange (WhichOther number at) = IsNumber number × (1 ≤ at) × (at < number)
IsInRange (FollowOther number at id) = IsNumber number × (1 ≤ at) × (at < number) × IsId id

-- how many asks come before an update's step at most
abbrev pub asks_before : UpdateStep → ℕ
asks_before StageFollow = 0
asks_before StageLead = 1
asks_before OrderLead = 2
asks_before (FollowOn number false) = 3
asks_before (FollowOn number true) = 4 + 2 * number
asks_before (WhichOther number at) = 4 + 2 * at
asks_before (FollowOther number at id) = 5 + 2 * at

-- the ranges of a mark that is used further: the number that an Order gave, and the id that Which named
abbrev pub IsMarkOf : Single → Mark → Type 0
IsMarkOf (single.Which number) m = IsId m.id
IsMarkOf (single.Stage id) m = Unit {0}
IsMarkOf (single.Order id) m = IsNumber m.number
IsMarkOf (single.Follow number id) m = Unit {0}

-- a version that is seen is in range
abbrev pub IsSeen : Outcome → Type 0
IsSeen (Posted doc number) = number ≤ 1048576
IsSeen (Removed doc number) = number ≤ 1048576
IsSeen (Accepted answer) = answer.version ≤ 1048576
IsSeen NothingPending = Unit {0}
IsSeen (Lengths lead follow seen) = Unit {0}
IsSeen (Rotated epoch) = Unit {0}
IsSeen (Failed f) = Unit {0}

-- a search that has messages, and whose asks are these
pub record IsQuery (q : Query) : Type 0 where
  pub version : q.version ≤ 1048576
  pub shape : IsDims q.shape
  pub lead : AreKeys q.shape q.lead_keys
  pub follow : AreKeys q.shape q.follow_keys

-- what is true at a phase, so many steps from the beginning
abbrev pub Within : Phase → ℕ → Type 0
Within (Updating e at) step = IsEntry e × IsInRange at × (step ≤ asks_before at)
Within (Measuring word None) step = step ≤ 0
Within (Measuring word (Some lead)) step = step ≤ 1
Within (Searching q None) step = IsQuery q × (step ≤ 2)
Within (Searching q (Some lead)) step = IsQuery q × (step ≤ 3)
Within (Ended outcome) step = IsSeen outcome

-- a search's asks are the third and the fourth of its run
abbrev pub AsksNamed : Run → Phase → Type 0
AsksNamed run (Searching q lead) = q.asks ≡ name run 2 ∷ name run 3 ∷ []
AsksNamed run (Updating e at) = Unit {0}
AsksNamed run (Measuring word lead) = Unit {0}
AsksNamed run (Ended outcome) = Unit {0}

-- what is true of a run
pub record RunInRange (run : Run) : Type 0 where
  pub kept : IsKeptState run.kept
  pub serial : run.serial < 2 ^ 64
  pub named : AsksNamed run run.phase
  pub phase : Within run.phase run.step
