-- What the steps of a world come to, as the code has them.
use Rattle.std.specs.Prelude.{ℕ, ◌≡◌, ◌≢◌, ◌++◌, true, List, [], ◌∷◌, length, Option, Some, None, slice_set}
use Rattle.dory_base.specs.Step.{State}
use Rattle.dory_base.specs.declared.ids.MemberId.{MemberId}
use Rattle.dory_wire.specs.Spelling.{IsRequest, what_kind}
use Rattle.dory_wire.specs.StepReply.{answer_of}
use Rattle.dory_wire.specs.declared.message.Request.{Request}
use Rattle.dory_domain.specs.Held.{Held}
use Rattle.dory_state.specs.Spelling.{IsKeptState}
use Rattle.dory_member.specs.Course.{Ask, ask_request, asks, fails}
use Rattle.dory_member.specs.Machine.{Machine, turn_of, waits_for_reply}
use Rattle.dory_member.specs.declared.outcome.Fault.TheVariants as fault
use Rattle.dory_member.specs.declared.phase.Phase.TheVariants.{Ended}
use Rattle.dory_member.specs.declared.phase.Run.{Run}
use Rattle.dory_run.specs.Happening.{folder_after, line_of, puts, refusal_in, reply_frame, settled}
use Rattle.dory_run.specs.World.{Station, Idle, Busy, Message}
use Rattle.dory_run.specs.declared.line.WorldLine.{WorldLine}
use Rattle.dory_world.specs.declared.answering.Answered.{Answered}
use Rattle.dory_world.specs.declared.asking.Asking.{Asking}
use Rattle.dory_world.specs.declared.asking.Halted.{Halted}

-- the one folder of a domain, under its number
abbrev pub only : ℕ → State → List Held
only number f = record { number = number; state = f } ∷ []

-- what a domain with this one folder answers to a request, and what it then has
pub record Answers (f : State) (request : Request) (a : Answered) (now : List Held) : Type 0 where
  pub frame : a.frame.items ≡ reply_frame f request
  pub kind : a.kind ≡ what_kind (answer_of f request.want)
  pub refusal : a.refusal ≡ refusal_in (answer_of f request.want)
  pub folder : now ≡ only request.folder.0 (folder_after f request)

-- an ask that is put is the one that is due, and where none is due, none is put
abbrev pub IsDue : Run → Option Ask → Option Asking → Type 0
IsDue run None None = Unit {0}
IsDue run None (Some a) = ⊥
IsDue run (Some ask) None = ⊥
IsDue run (Some ask) (Some a) = (a.side ≡ ask.side) × (a.request ≡ ask_request run ask) × IsRequest a.request

-- a run has ended, and not for want of memory: what it has kept, and its outcome
pub record HasHalted (run : Run) (h : Halted) : Type 0 where
  pub kept : h.kept ≡ run.kept
  pub range : IsKeptState h.kept
  pub outcome : run.phase ≡ Ended h.outcome
  pub remembers : run.phase ≢ fails fault.NoMemory

-- A member's command has gone on to this run: the members, the messages and the line then. Memory didn't run out.
pub record WentOn (m : MemberId) (run : Run) (before : List Station) (put : List Message) (told : WorldLine) (now : List Station) (put_now : List Message) : Type 0 where
  pub members : now ≡ slice_set before m.0 (settled run)
  pub messages : put_now ≡ put ++ puts run (asks run.phase)
  pub line : told ≡ line_of (length put) m run.phase
  pub remembers : run.phase ≢ fails fault.NoMemory

-- the command of the member of a number is taken, if it has one
abbrev pub TakenFrom : Option Station → List Station → ℕ → Option Machine → List Station → Type 0
TakenFrom None members m None now = now ≡ members
TakenFrom None members m (Some member) now = ⊥
TakenFrom (Some (Idle k)) members m None now = now ≡ members
TakenFrom (Some (Idle k)) members m (Some member) now = ⊥
TakenFrom (Some (Busy run)) members m None now = ⊥
TakenFrom (Some (Busy run)) members m (Some member) now = (now ≡ slice_set members m (Idle run.kept)) × (member.run ≡ run) × (waits_for_reply (turn_of member) ≡ true)
