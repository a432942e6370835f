-- Two short runs, by which the definitions can be tried: a removal of one member, and one of another that a lying lead
-- answers with an order of its own.
use Rattle.std.specs.Prelude.{ℕ, ◌≡◌, ◌+◌, List, [], ◌∷◌, ◌++◌, Some, None, slice_get}
use Rattle.dory_base.specs.declared.ids.DocId.{DocId}
use Rattle.dory_base.specs.declared.ids.Side.TheVariants.{Lead, Follow}
use Rattle.dory_base.specs.declared.ids.UpdateId.{UpdateId}
use Rattle.dory_wire.specs.Frame.{frame_of}
use Rattle.dory_wire.specs.Spelling.{spelling_of_reply}
use Rattle.dory_wire.specs.declared.message.What.TheVariants.{Committed}
use Rattle.dory_member.specs.declared.command.Command.TheVariants.{Remove}
use Rattle.dory_member.specs.declared.outcome.Fault.TheVariants.{Diverged}
use Rattle.dory_member.specs.declared.outcome.Outcome.TheVariants.{Removed, Failed}
use Rattle.dory_run.specs.declared.event.Event.{Event}
use Rattle.dory_run.specs.declared.event.Event.TheVariants.{Begin, Carry, Return, Lie}
use Rattle.dory_run.specs.declared.event.Honest.TheVariants as honest
use Rattle.dory_run.specs.declared.line.WorldLine.TheVariants as line
use Rattle.dory_run.specs.declared.setup.Setup.{Setup}
use Rattle.dory_run.specs.Run.{telling_of}
use Rattle.dory_run.specs.Start.{numbered}

-- two members of folder 1, of the smallest rows
abbrev pub small : Setup
small = record { folder = record { 0 = 1 }; shape = record { depth = 8; probes = 2 }; retained = 64; members = 2; seed = 5 }

-- the document of a number
abbrev pub doc : ℕ → DocId
doc number = record { 0 = number }

-- the update of this serial of a member
abbrev pub update : ℕ → ℕ → UpdateId
update m serial = record { member = numbered m; serial = serial }

-- an ask is carried, and the next message, its reply, returned
abbrev pub turn : ℕ → List Event
turn n = Carry n ∷ Return (n + 1) ∷ []

-- member 0 removes document 7
abbrev pub removal : List Event
removal = Begin (numbered 0) (Remove (doc 7)) ∷ turn 0 ++ turn 2 ++ turn 4 ++ turn 6

-- then member 1 removes document 9, and the lead says that this update stands at 1 already
abbrev pub diverging : List Event
diverging = removal ++ (Begin (numbered 1) (Remove (doc 9)) ∷ turn 8 ++ turn 10)
    ++ (Lie Lead (numbered 1) (frame_of (spelling_of_reply (record { ask = record { member = numbered 1; serial = 1; step = 2 }; what = Committed 1 (update 1 1) }))) ∷ Return 13 ∷ turn 14)

-- the first run is told so: the removal is staged at the follower and at the lead, ordered and followed
pub record IsRemoved : Type 0 where
  pub lines : (telling_of honest.Both small removal).lines
      ≡ line.Ask 0 Follow 4 ∷ line.Reply 1 Follow 132 None ∷ line.Ask 2 Lead 4 ∷ line.Reply 3 Lead 132 None ∷ line.Ask 4 Lead 5 ∷ line.Reply 5 Lead 133 None
      ∷ line.Ask 6 Follow 6 ∷ line.Reply 7 Follow 133 None ∷ line.Ended (numbered 0) (Removed (doc 7) 1) ∷ []
  pub bad : (telling_of honest.Both small removal).bad ≡ None

-- the second ends so: at number 1 the lead says 1.1, and the honest follower has 0.1
pub record IsDiverged : Type 0 where
  pub last : slice_get (telling_of honest.Follow small diverging).lines 17 ≡ Some (line.Ended (numbered 1) (Failed (Diverged 1 (update 1 1) (update 0 1))))
  pub bad : (telling_of honest.Follow small diverging).bad ≡ None
