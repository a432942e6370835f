-- What happens at an event: which events are allowed, the world after one, and the line that tells it.
use Rattle.std.specs.Prelude.{ℕ, ◌+◌, ◌==◌, ◌&&◌, nat_lt, nat_le, bit_xor, Bool, true, false, List, [], ◌∷◌, ◌++◌, length, take, drop, Option, Some, None, Result, Ok, Err, slice_get}
use Rattle.std.specs.List.{list_all}
use Rattle.dory_base.specs.Dims.{Dims, column_count}
use Rattle.dory_base.specs.Step.{State, log_of, after_maybe}
use Rattle.dory_base.specs.declared.entry.Entry.{Entry}
use Rattle.dory_base.specs.declared.ids.MemberId.{MemberId}
use Rattle.dory_base.specs.declared.ids.Side.{Side}
use Rattle.dory_base.specs.declared.ids.Side.TheVariants.{Lead, Follow}
use Rattle.dory_base.specs.declared.refusal.Refusal.{Refusal}
use Rattle.dory_wire.specs.Frame.{frame_of}
use Rattle.dory_wire.specs.Spelling.{spelling_of_reply, want_kind, what_kind}
use Rattle.dory_wire.specs.StepReply.{answer_of, event_of}
use Rattle.dory_wire.specs.declared.message.Reply.{Reply}
use Rattle.dory_wire.specs.declared.message.Request.{Request}
use Rattle.dory_wire.specs.declared.message.Want.TheVariants as want
use Rattle.dory_wire.specs.declared.message.What.{What}
use Rattle.dory_wire.specs.declared.message.What.TheVariants as what
use Rattle.dory_member.specs.declared.command.Command.{Command}
use Rattle.dory_member.specs.declared.command.Command.TheVariants as command
use Rattle.dory_member.specs.declared.outcome.Fault.{Fault}
use Rattle.dory_member.specs.declared.outcome.Outcome.TheVariants.{Failed}
use Rattle.dory_member.specs.declared.phase.Phase.{Phase}
use Rattle.dory_member.specs.declared.phase.Phase.TheVariants.{Updating, Measuring, Searching, Ended}
use Rattle.dory_member.specs.declared.phase.Run.{Run}
use Rattle.dory_member.specs.Course.{Ask, ask_request, asks, begun, side_of, single_of, took, want_of}
use Rattle.dory_run.specs.declared.event.Event.{Event}
use Rattle.dory_run.specs.declared.event.Event.TheVariants.{Begin, Carry, Return, Lie, Bend, Quit}
use Rattle.dory_run.specs.declared.event.Honest.{Honest}
use Rattle.dory_run.specs.declared.event.Honest.TheVariants as honest
use Rattle.dory_run.specs.declared.line.WorldLine.{WorldLine}
use Rattle.dory_run.specs.declared.line.WorldLine.TheVariants as line
use Rattle.dory_run.specs.declared.setup.Setup.{Setup}
use Rattle.dory_run.specs.Start.{seed_of}
use Rattle.dory_run.specs.World.{Station, Idle, Busy, Message, Asked, Replied, World, folder_of, next_message, with_folder, with_member, with_messages}

-- the world after an event, its line, and the update that it makes, if it makes one
pub record Happened : Type 0 where
  pub world : World
  pub line : WorldLine
  pub made : List Entry

-- ---- members

-- a command that has ended leaves its member idle
abbrev pub station_at : Run → Phase → Station
station_at run (Updating e at) = Busy run
station_at run (Measuring word lead) = Busy run
station_at run (Searching q lead) = Busy run
station_at run (Ended outcome) = Idle run.kept

-- where a run stands now
abbrev pub settled : Run → Station
settled run = station_at run run.phase

-- the ask of a run is put
abbrev pub puts : Run → Option Ask → List Message
puts run None = []
puts run (Some ask) = Asked ask.side (ask_request run ask) ∷ []

-- a member's command goes on from here, or has ended
abbrev pub gone_on : World → MemberId → Run → World
gone_on w m run = with_messages (with_member w m (settled run)) (puts run (asks run.phase))

-- the line of a command that goes on: its ask has this number, or it has ended
abbrev pub line_of : ℕ → MemberId → Phase → WorldLine
line_of n m (Updating e at) = line.Ask n (side_of at) (want_kind (want_of e (single_of e.id at)))
line_of n m (Measuring word None) = line.Ask n Lead (want_kind want.Latest)
line_of n m (Measuring word (Some lead)) = line.Ask n Follow (want_kind want.Latest)
line_of n m (Searching q None) = line.Ask n Lead (want_kind (want.Search q.version q.shape q.lead_keys))
line_of n m (Searching q (Some lead)) = line.Ask n Follow (want_kind (want.Search q.version q.shape q.follow_keys))
line_of n m (Ended outcome) = line.Ended m outcome

-- the update that a phase is about
abbrev pub entries_at : Phase → List Entry
entries_at (Updating e at) = e ∷ []
entries_at (Measuring word lead) = []
entries_at (Searching q lead) = []
entries_at (Ended outcome) = []

-- a post and a removal make the update that they begin with; a resumed one was made before
abbrev pub makes : Command → Run → List Entry
makes (command.Post doc row) run = entries_at run.phase
makes (command.Remove doc) run = entries_at run.phase
makes (command.Search word) run = []
makes command.Resume run = []
makes command.Latest run = []
makes command.Rotate run = []

-- ---- Begin

-- a document's number has four bytes
abbrev pub is_doc : ℕ → Bool
is_doc number = nat_lt number 4294967296

-- the row of a post has a bit for each column
abbrev pub fits : Dims → Command → Bool
fits shape (command.Post doc row) = (length row == column_count shape) && is_doc doc.0
fits shape (command.Remove doc) = is_doc doc.0
fits shape (command.Search word) = true
fits shape command.Resume = true
fits shape command.Latest = true
fits shape command.Rotate = true

-- a command begins, or is refused, which changes nothing
abbrev pub begins : World → MemberId → Command → Result Run Fault → Happened
begins w m c (Ok run) = record { world = gone_on w m run; line = line_of (next_message w) m run.phase; made = makes c run }
begins w m c (Err f) = record { world = w; line = line.Ended m (Failed f); made = [] }

-- allowed where the command fits
abbrev pub begin_if : Bool → World → MemberId → Command → Result Run Fault → Option Happened
begin_if false w m c made = None
begin_if true w m c made = Some (begins w m c made)

-- allowed of an idle member
abbrev pub begin_at : Setup → World → MemberId → Command → Option Station → Option Happened
begin_at s w m c None = None
begin_at s w m c (Some (Busy run)) = None
begin_at s w m c (Some (Idle k)) = begin_if (fits k.shape c) w m c (begun k (seed_of s m) c)

-- ---- Carry

-- what a domain replies to a request
abbrev pub reply_to : State → Request → Reply
reply_to f request = record { ask = request.ask; what = answer_of f request.want }

-- the frame of that reply
abbrev pub reply_frame : State → Request → List ℕ
reply_frame f request = frame_of (spelling_of_reply (reply_to f request))

-- the refusal that an answer is
abbrev pub refusal_in : What → Option Refusal
refusal_in (what.Refused code) = Some code
refusal_in (what.At length) = None
refusal_in (what.Found f) = None
refusal_in (what.Id number id) = None
refusal_in (what.Staged id) = None
refusal_in (what.Committed number id) = None

-- the domain's folder after a request
abbrev pub folder_after : State → Request → State
folder_after f request = after_maybe f (event_of (log_of f) request.want)

-- a domain steps, and its reply is put
abbrev pub answered : World → Side → Request → Happened
answered w side request = record {
  world = with_messages (with_folder w side (folder_after (folder_of w side) request))
      (Replied side request.ask.member (reply_frame (folder_of w side) request) ∷ []);
  line = line.Reply (next_message w) side (what_kind (answer_of (folder_of w side) request.want)) (refusal_in (answer_of (folder_of w side) request.want));
  made = [];
}

-- allowed of an ask
abbrev pub carry_of : World → Option Message → Option Happened
carry_of w None = None
carry_of w (Some (Replied side m frame)) = None
carry_of w (Some (Asked side request)) = Some (answered w side request)

-- ---- Return

-- the two are one side
abbrev pub same_side : Side → Side → Bool
same_side Lead Lead = true
same_side Lead Follow = false
same_side Follow Lead = false
same_side Follow Follow = true

-- a member takes a reply
abbrev pub returned : World → MemberId → Run → Happened
returned w m run = record { world = gone_on w m run; line = line_of (next_message w) m run.phase; made = [] }

-- allowed where the member waits for a reply of this side
abbrev pub return_if : Bool → World → MemberId → Run → List ℕ → Option Happened
return_if false w m run frame = None
return_if true w m run frame = Some (returned w m (took run frame))

-- by what the member asks
abbrev pub return_for : World → Side → MemberId → List ℕ → Run → Option Ask → Option Happened
return_for w side m frame run None = None
return_for w side m frame run (Some ask) = return_if (same_side ask.side side) w m run frame

-- allowed of a busy member
abbrev pub return_to : World → Side → MemberId → List ℕ → Option Station → Option Happened
return_to w side m frame None = None
return_to w side m frame (Some (Idle k)) = None
return_to w side m frame (Some (Busy run)) = return_for w side m frame run (asks run.phase)

-- allowed of a reply
abbrev pub return_of : World → Option Message → Option Happened
return_of w None = None
return_of w (Some (Asked side request)) = None
return_of w (Some (Replied side m frame)) = return_to w side m frame (slice_get w.members m.0)

-- ---- Lie and Bend

-- the domain isn't honest
abbrev pub lies : Honest → Side → Bool
lies honest.Both side = false
lies honest.Lead Lead = false
lies honest.Lead Follow = true
lies honest.Follow Lead = true
lies honest.Follow Follow = false

-- a byte
abbrev pub is_byte : ℕ → Bool
is_byte b = nat_lt b 256

-- bytes, at most as many as the longest frame has
abbrev pub is_told : List ℕ → Bool
is_told bytes = nat_le (length bytes) 1048580 && list_all is_byte bytes

-- a frame is put in a domain's name
abbrev pub told : World → Side → MemberId → List ℕ → Happened
told w side m frame = record { world = with_messages w (Replied side m frame ∷ []); line = line.Lied (next_message w) side; made = [] }

-- allowed of a domain that isn't honest
abbrev pub told_if : Bool → World → Side → MemberId → List ℕ → Option Happened
told_if false w side m frame = None
told_if true w side m frame = Some (told w side m frame)

-- bytes XORed by a mask
abbrev pub xored : List ℕ → List ℕ → List ℕ
xored [] mask = []
xored (b ∷ bytes) [] = b ∷ bytes
xored (b ∷ bytes) (x ∷ mask) = bit_xor b x ∷ xored bytes mask

-- a frame whose bytes from one place on are XORed by a mask
abbrev pub bent : ℕ → List ℕ → List ℕ → List ℕ
bent at mask frame = take at frame ++ xored (drop at frame) mask

-- the mask stays within the frame
abbrev pub is_within : ℕ → List ℕ → List ℕ → Bool
is_within at mask frame = nat_le (at + length mask) (length frame) && list_all is_byte mask

-- allowed of a reply of a domain that isn't honest, within its bytes
abbrev pub bend_of : Honest → World → ℕ → List ℕ → Option Message → Option Happened
bend_of h w at mask None = None
bend_of h w at mask (Some (Asked side request)) = None
bend_of h w at mask (Some (Replied side m frame)) = told_if (lies h side && is_within at mask frame) w side m (bent at mask frame)

-- ---- Quit

-- a member gives its command up, and keeps what it has saved
abbrev pub quits : World → MemberId → Run → Happened
quits w m run = record { world = with_member w m (Idle run.kept); line = line.Quit m; made = [] }

-- allowed of a busy member
abbrev pub quit_at : World → MemberId → Option Station → Option Happened
quit_at w m None = None
quit_at w m (Some (Idle k)) = None
quit_at w m (Some (Busy run)) = Some (quits w m run)

-- ---- all events

-- what happens at an event, if it is allowed
abbrev pub happens : Honest → Setup → World → Event → Option Happened
happens h s w (Begin m c) = begin_at s w m c (slice_get w.members m.0)
happens h s w (Carry n) = carry_of w (slice_get w.messages n)
happens h s w (Return n) = return_of w (slice_get w.messages n)
happens h s w (Lie side m bytes) = told_if (lies h side && is_told bytes) w side m bytes
happens h s w (Bend n at mask) = bend_of h w at mask (slice_get w.messages n)
happens h s w (Quit m) = quit_at w m (slice_get w.members m.0)
