-- What holds at each moment of every run of the names of asks: each ask's name was put with one request only, and each reply
-- of an honest domain answers the request of its name by a history that its present one begins with.
use Rattle.std.specs.Prelude.{ℕ, ◌≡◌, ◌≤◌, ◌<◌, false, if◌then◌else◌, List, [], ◌∷◌, Option, Some, None, length, slice_get, IfSome}
use Rattle.std.specs.List.{AllByRecursion}
use Rattle.dory_base.specs.History.{IsPrefix}
use Rattle.dory_base.specs.Step.{State}
use Rattle.dory_base.specs.declared.entry.Entry.{Entry}
use Rattle.dory_base.specs.declared.ids.AskId.{AskId}
use Rattle.dory_base.specs.declared.ids.Side.{Side}
use Rattle.dory_base.specs.declared.ids.Side.TheVariants.{Lead, Follow as Following}
use Rattle.dory_wire.specs.Read.{search_of}
use Rattle.dory_wire.specs.Reading.{reply_in}
use Rattle.dory_wire.specs.declared.message.Reply.{Reply}
use Rattle.dory_wire.specs.declared.message.Request.{Request}
use Rattle.dory_wire.specs.declared.message.Want.{Want}
use Rattle.dory_wire.specs.declared.message.Want.TheVariants.{Latest, Search, Which, Stage, Order, Follow}
use Rattle.dory_wire.specs.declared.message.What.{What}
use Rattle.dory_wire.specs.declared.message.What.TheVariants.{At, Found as Finds, Id, Staged, Committed, Refused}
use Rattle.dory_verify.specs.Checks.{same_ask}
use Rattle.dory_query.specs.declared.query.Query.{Query}
use Rattle.dory_member.specs.declared.command.Command.TheVariants as command
use Rattle.dory_member.specs.declared.phase.Phase.{Phase}
use Rattle.dory_member.specs.declared.phase.Phase.TheVariants.{Updating, Measuring, Searching, Ended}
use Rattle.dory_member.specs.declared.phase.Run.{Run}
use Rattle.dory_member.specs.Course.{Ask, name, query_of, to}
use Rattle.dory_run.specs.declared.event.Honest.{Honest}
use Rattle.dory_run.specs.Happening.{lies}
use Rattle.dory_run.specs.Kept.{next_of}
use Rattle.dory_run.specs.Run.{Given, command_of}
use Rattle.dory_run.specs.World.{Station, Idle, Busy, Message, Asked, Replied, World, folder_of}

-- ---- what a domain says

-- a number or a length that is answered is at most this
abbrev pub SaysUpTo : ℕ → What → Type 0
SaysUpTo len (At n) = n ≤ len
SaysUpTo len (Committed n id) = n ≤ len
SaysUpTo len (Finds f) = Unit {0}
SaysUpTo len (Id n id) = Unit {0}
SaysUpTo len (Staged id) = Unit {0}
SaysUpTo len (Refused code) = Unit {0}

-- a search is answered by a history that the present one begins with
abbrev pub SearchedBy : State → Want → What → Type 0
SearchedBy f (Search version shape keys) what = (h : List Entry) × IsPrefix h f.history × (what ≡ search_of f.shape f.retained h version shape keys)
SearchedBy f Latest what = Unit {0}
SearchedBy f (Which n) what = Unit {0}
SearchedBy f (Stage e) what = Unit {0}
SearchedBy f (Order id) what = Unit {0}
SearchedBy f (Follow n id) what = Unit {0}

-- both of what a domain says to a request
pub record Tells (f : State) (want : Want) (what : What) : Type 0 where
  pub bound : SaysUpTo (length f.history) what
  pub searched : SearchedBy f want what

-- ---- names

-- whom the ask of this name went to, and what it asked
abbrev pub asked_as : List Message → AskId → Option Ask
asked_as [] n = None
asked_as (Replied side m frame ∷ messages) n = asked_as messages n
asked_as (Asked side request ∷ messages) n = if same_ask request.ask n then Some (to side request.want) else asked_as messages n

-- the frame is a reply of this domain to the request of its name, which went to it
pub record From (messages : List Message) (f : State) (side : Side) (frame : List ℕ) : Type 0 where
  pub reply : Reply
  pub came : reply_in frame ≡ Some reply
  pub want : Want
  pub put : asked_as messages reply.ask ≡ Some (to side want)
  pub tells : Tells f want reply.what

-- where the domain is honest
abbrev pub FrameFrom : Honest → World → Side → List ℕ → Type 0
FrameFrom h w side frame = lies h side ≡ false → From w.messages (folder_of w side) side frame

-- an ask is found by its name, which its member has used up
pub record IsPut (w : World) (side : Side) (request : Request) : Type 0 where
  pub found : asked_as w.messages request.ask ≡ Some (to side request.want)
  pub old : request.ask.serial < next_of w.members request.ask.member.0
  pub current : (run : Run) → slice_get w.members request.ask.member.0 ≡ Some (Busy run) → run.serial ≡ request.ask.serial → request.ask.step ≤ run.step

-- so is each message: an ask that was put, or a frame that came from where it says
abbrev pub IsNamedMessage : Honest → World → Message → Type 0
IsNamedMessage h w (Asked side request) = IsPut w side request
IsNamedMessage h w (Replied side m frame) = FrameFrom h w side frame

-- the ask of a run at a step was put
abbrev pub AskAt : World → Run → ℕ → Ask → Type 0
AskAt w run step ask = asked_as w.messages (name run step) ≡ Some ask

-- the word is that of the command that the member was given
abbrev pub IsWordGiven : List Given → ℕ → Option (List ℕ) → Type 0
IsWordGiven given m None = Unit {0}
IsWordGiven given m (Some word) = command_of given m ≡ Some (command.Search word)

-- the query is that of the word
pub record IsSought (given : List Given) (m : ℕ) (run : Run) (q : Query) : Type 0 where
  pub word : List ℕ
  pub searches : command_of given m ≡ Some (command.Search word)
  pub asked : q ≡ query_of run word q.version

-- what a search asks the lead
abbrev pub to_lead : Query → Ask
to_lead q = to Lead (Search q.version q.shape q.lead_keys)

-- what it asks the follower
abbrev pub to_follow : Query → Ask
to_follow q = to Following (Search q.version q.shape q.follow_keys)

-- a phase stands at its step, its asks were put, and the frame that it holds came from where it says
abbrev pub IsNamedPhase : Honest → World → List Given → ℕ → Run → Phase → Type 0
IsNamedPhase h w given m run (Updating e at) = Unit {0}
IsNamedPhase h w given m run (Measuring word None) = (run.step ≡ 0) × IsWordGiven given m word
IsNamedPhase h w given m run (Measuring word (Some lead)) = (run.step ≡ 1) × IsWordGiven given m word × FrameFrom h w Lead lead
IsNamedPhase h w given m run (Searching q None) = (run.step ≡ 2) × IsSought given m run q × AskAt w run 2 (to_lead q)
IsNamedPhase h w given m run (Searching q (Some lead)) =
    (run.step ≡ 3) × IsSought given m run q × AskAt w run 2 (to_lead q) × AskAt w run 3 (to_follow q) × FrameFrom h w Lead lead
IsNamedPhase h w given m run (Ended outcome) = Unit {0}

-- a member's command, which has a serial that its member drew
pub record IsNamedRun (h : Honest) (w : World) (given : List Given) (m : ℕ) (run : Run) : Type 0 where
  pub member : run.kept.member.0 ≡ m
  pub serial : run.serial < run.kept.next_serial
  pub phase : IsNamedPhase h w given m run run.phase

-- the same of a member as it stands
abbrev pub IsNamedStation : Honest → World → List Given → ℕ → Station → Type 0
IsNamedStation h w given m (Idle k) = Unit {0}
IsNamedStation h w given m (Busy run) = IsNamedRun h w given m run

-- what each event keeps of the names of asks
pub record IsNamed (h : Honest) (w : World) (given : List Given) : Type 0 where
  pub messages : AllByRecursion (IsNamedMessage h w) w.messages
  pub members : (m : ℕ) → IfSome (slice_get w.members m) (IsNamedStation h w given m)
