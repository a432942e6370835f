-- What holds at each moment of every run of what members have seen: no more than an honest domain has.
use Rattle.std.specs.Prelude.{ℕ, ◌≤◌, length, slice_get, IfSome}
use Rattle.dory_base.specs.declared.ids.Side.{Side}
use Rattle.dory_base.specs.declared.ids.Side.TheVariants.{Lead, Follow}
use Rattle.dory_member.specs.declared.phase.UpdateStep.{UpdateStep}
use Rattle.dory_member.specs.declared.phase.UpdateStep.TheVariants.{StageFollow, StageLead, OrderLead, FollowOn, WhichOther, FollowOther}
use Rattle.dory_member.specs.declared.phase.Phase.{Phase}
use Rattle.dory_member.specs.declared.phase.Phase.TheVariants.{Updating, Measuring, Searching, Ended}
use Rattle.dory_run.specs.Law.{kept_in}
use Rattle.dory_run.specs.World.{Station, Idle, Busy, World, folder_of}

-- the number that the lead gave is one that it has
abbrev pub StepSeen : Side → ℕ → UpdateStep → Type 0
StepSeen Lead len (FollowOn n repaired) = n ≤ len
StepSeen Lead len (WhichOther n at) = n ≤ len
StepSeen Lead len (FollowOther n at id) = n ≤ len
StepSeen Lead len StageFollow = Unit {0}
StepSeen Lead len StageLead = Unit {0}
StepSeen Lead len OrderLead = Unit {0}
StepSeen Follow len at = Unit {0}

-- so is the version that a search asks
abbrev pub PhaseSeen : Side → ℕ → Phase → Type 0
PhaseSeen side len (Updating e at) = StepSeen side len at
PhaseSeen side len (Measuring word lead) = Unit {0}
PhaseSeen side len (Searching q lead) = q.version ≤ len
PhaseSeen side len (Ended outcome) = Unit {0}

-- the same of a member as it stands
abbrev pub RunSeen : Side → ℕ → Station → Type 0
RunSeen side len (Idle k) = Unit {0}
RunSeen side len (Busy run) = PhaseSeen side len run.phase

-- a member has seen no more than this length
pub record StationSeen (side : Side) (len : ℕ) (s : Station) : Type 0 where
  pub seen : (kept_in s).seen ≤ len
  pub run : RunSeen side len s

-- how long a domain's history is
abbrev pub length_of : World → Side → ℕ
length_of w side = length (folder_of w side).history

-- what each event keeps of what members have seen
abbrev pub IsSeen : Side → World → Type 0
IsSeen side w = (m : ℕ) → IfSome (slice_get w.members m) (StationSeen side (length_of w side))
