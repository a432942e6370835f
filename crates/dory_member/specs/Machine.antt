-- What contracts see of a member: its run, and whether it waits for a save.
use Rattle.std.specs.Prelude.{ℕ, ◌≡◌, Bool, true, false, if◌then◌else◌, List, Option, Some, None, Result, Ok, Err}
use Rattle.dory_base.specs.declared.ids.Side.{Side}
use Rattle.dory_base.specs.declared.ids.AskId.{AskId}
use Rattle.dory_base.specs.declared.ids.FolderId.{FolderId}
use Rattle.dory_wire.specs.Frame.{frame_of}
use Rattle.dory_wire.specs.Spelling.{IsRequest, spelling_of_request}
use Rattle.dory_wire.specs.Reading.{request_in}
use Rattle.dory_wire.specs.declared.message.Request.{Request}
use Rattle.dory_state.specs.declared.kept.KeptState.{KeptState}
use Rattle.dory_member.specs.declared.command.Command.{Command}
use Rattle.dory_member.specs.declared.outcome.Fault.{Fault}
use Rattle.dory_member.specs.declared.outcome.Fault.TheVariants as fault
use Rattle.dory_member.specs.declared.outcome.Outcome.{Outcome}
use Rattle.dory_member.specs.declared.outcome.Outcome.TheVariants.{Posted, Removed, Accepted, NothingPending, Lengths, Rotated, Failed}
use Rattle.dory_member.specs.declared.phase.Phase.{Phase}
use Rattle.dory_member.specs.declared.phase.Phase.TheVariants.{Updating, Measuring, Searching, Ended}
use Rattle.dory_member.specs.declared.phase.Run.{Run}
use Rattle.dory_member.specs.declared.next.Next.{Next}
use Rattle.dory_member.specs.declared.next.Next.TheVariants as next
use Rattle.dory_member.specs.Course.{Ask, asks, begun, took, moved, fails, outcome_at, ask_request}

-- a command as it runs, and whether its state has to be saved before it goes on
pub record Machine : Type 0 where
  pub run : Run
  pub unsaved : Bool

-- an outcome that keeps something new
abbrev pub keeps : Outcome → Bool
keeps (Posted doc number) = true
keeps (Removed doc number) = true
keeps (Accepted answer) = true
keeps NothingPending = false
keeps (Lengths lead follow seen) = false
keeps (Rotated epoch) = true
keeps (Failed f) = false

-- a command saves before its first ask, or where it asks nothing and keeps something new
abbrev pub saves_first : Phase → Bool
saves_first (Updating e at) = true
saves_first (Measuring word lead) = true
saves_first (Searching q lead) = true
saves_first (Ended outcome) = keeps outcome

-- after a reply it saves where it ends and keeps something new
abbrev pub saves_last : Phase → Bool
saves_last (Updating e at) = false
saves_last (Measuring word lead) = false
saves_last (Searching q lead) = false
saves_last (Ended outcome) = keeps outcome

-- a run that begins
abbrev pub just_begun : Run → Machine
just_begun run = record { run = run; unsaved = saves_first run.phase }

-- how a command begins
abbrev pub begins : Result Run Fault → Result Machine Fault
begins (Ok run) = Ok (just_begun run)
begins (Err f) = Err f

-- the machine that a command is at first, or why it is refused
abbrev pub began : KeptState → List ℕ → Command → Result Machine Fault
began k seed c = begins (begun k seed c)

-- a refusal is the one that there is, and memory may run out
abbrev pub IsRefused : {Y : Type 0} → Fault → Result Y Fault → Type 0
IsRefused fault.NoMemory made = Unit {0}
IsRefused f made = made ≡ Err f

-- unless memory runs out, it begins so
abbrev pub BeginsBy : {Y : Type 0} → Result Y Fault → Result Y Fault → Type 0
BeginsBy (Ok m) made = made ≡ Ok m
BeginsBy (Err f) made = IsRefused f made

-- a run that goes on after a reply
abbrev pub going_on : Run → Machine
going_on run = record { run = run; unsaved = saves_last run.phase }

-- a reply is taken
abbrev pub reply_taken : Machine → List ℕ → Machine
reply_taken m frame = going_on (took m.run frame)

-- memory ran out where a reply was taken, which ends the command
abbrev pub ran_out : Machine → Machine
ran_out m = going_on (moved m.run (fails fault.NoMemory))

-- what a member does next: it saves, it asks a domain by a frame, or it is at its end
pub data Turn : Type 0 where
  Saves : Turn
  Asks : Side → List ℕ → Turn
  Ends : Turn

-- a turn as the code has it
abbrev pub seen : Next → Turn
seen next.Save = Saves
seen (next.Ask side frame) = Asks side frame.now
seen next.End = Ends

-- the frame of an ask
abbrev pub frame_at : Run → Ask → List ℕ
frame_at run ask = frame_of (spelling_of_request (ask_request run ask))

-- a frame is the one spelling of a request in range, and is read as that request
pub record IsFrameOf (r : Request) (frame : List ℕ) : Type 0 where
  pub spelled : frame ≡ frame_of (spelling_of_request r)
  pub read : request_in frame ≡ Some r
  pub range : IsRequest r

-- the frame is that of what is asked under this name in a folder; where nothing is, any
abbrev pub IsFramed : AskId → FolderId → Option Ask → List ℕ → Type 0
IsFramed name folder None frame = Unit {0}
IsFramed name folder (Some ask) frame = IsFrameOf (record { ask = name; folder = folder; want = ask.want }) frame

-- where a member asks, it asks by a frame of this request
abbrev pub AsksBy : Request → Next → Type 0
AsksBy r next.Save = Unit {0}
AsksBy r (next.Ask side frame) = IsFrameOf r frame.now
AsksBy r next.End = Unit {0}

-- an ask, or the end
abbrev pub asks_next : Run → Option Ask → Turn
asks_next run None = Ends
asks_next run (Some ask) = Asks ask.side (frame_at run ask)

-- the turn of a member
abbrev pub turn_of : Machine → Turn
turn_of m = if m.unsaved then Saves else asks_next m.run (asks m.run.phase)

-- the outcome of a member, which it has at its end
abbrev pub outcome_of : Machine → Option Outcome
outcome_of m = if m.unsaved then None else outcome_at m.run.phase

-- it waits for a save
abbrev pub is_saving : Turn → Bool
is_saving Saves = true
is_saving (Asks side frame) = false
is_saving Ends = false

-- it waits for a reply
abbrev pub waits_for_reply : Turn → Bool
waits_for_reply Saves = false
waits_for_reply (Asks side frame) = true
waits_for_reply Ends = false
