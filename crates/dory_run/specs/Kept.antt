-- What holds at each moment of every run of the histories, the messages and the members: updates are as they were made, and
-- all numbers are in range.
use Rattle.std.specs.Prelude.{ℕ, ◌≡◌, ◌≤◌, ◌<◌, ◌^◌, List, Option, Some, None, length, slice_get, IfSome}
use Rattle.std.specs.List.{AllByRecursion}
use Rattle.dory_base.specs.Log.{staged_by}
use Rattle.dory_base.specs.Step.{State}
use Rattle.dory_base.specs.declared.entry.Entry.{Entry}
use Rattle.dory_base.specs.declared.ids.Side.{Side}
use Rattle.dory_domain.specs.Held.{Held, IsHeld}
use Rattle.dory_fields.specs.Bytes.{IsBytes}
use Rattle.dory_seal.specs.Seal.{IsSealed}
use Rattle.dory_wire.specs.Spelling.{IsAsk, IsEntry, IsId, IsNumber}
use Rattle.dory_wire.specs.declared.message.Request.{Request}
use Rattle.dory_wire.specs.declared.message.Want.{Want}
use Rattle.dory_wire.specs.declared.message.Want.TheVariants.{Latest, Search, Which, Stage, Order, Follow}
use Rattle.dory_state.specs.Spelling.{IsKeptState}
use Rattle.dory_state.specs.declared.kept.KeptState.{KeptState}
use Rattle.dory_query.specs.declared.query.Query.{Query}
use Rattle.dory_member.specs.declared.phase.Phase.{Phase}
use Rattle.dory_member.specs.declared.phase.Phase.TheVariants.{Updating, Measuring, Searching, Ended}
use Rattle.dory_member.specs.declared.phase.Run.{Run}
use Rattle.dory_member.specs.Course.{entry_of}
use Rattle.dory_member.specs.Within.{IsInRange, asks_before}
use Rattle.dory_run.specs.declared.setup.Setup.{Setup}
use Rattle.dory_run.specs.Law.{IsMade, kept_in}
use Rattle.dory_run.specs.Start.{fresh, keys_in, master_of, numbered}
use Rattle.dory_run.specs.World.{Station, Idle, Busy, Message, Asked, Replied, World, folder_of}

-- the folder, held under its number
abbrev pub as_held : Setup → State → Held
as_held s f = record { number = s.folder.0; state = f }

-- a domain's folder: of the world's shape, and each update in it is as it was made
pub record IsFolder (s : Setup) (made : List Entry) (f : State) : Type 0 where
  pub held : IsHeld (as_held s f)
  pub shape : f.shape ≡ s.shape
  pub history : AllByRecursion (IsMade made) f.history
  pub staged : (m : ℕ) → IfSome (staged_by f.staged m) (IsMade made)

-- what is asked is in range, and an update that is asked to be staged is as it was made
abbrev pub IsWanted : List Entry → Want → Type 0
IsWanted made (Stage e) = IsMade made e
IsWanted made Latest = Unit {0}
IsWanted made (Search version shape keys) = length keys ≤ 8
IsWanted made (Which number) = IsNumber number
IsWanted made (Order id) = IsId id
IsWanted made (Follow number id) = IsNumber number × IsId id

-- a request: of the world's folder, by a name in range
pub record IsAsked (s : Setup) (made : List Entry) (r : Request) : Type 0 where
  pub ask : IsAsk r.ask
  pub folder : r.folder ≡ s.folder
  pub want : IsWanted made r.want

-- a message: what is asked is right, and what is replied is bytes
abbrev pub IsPutRight : Setup → List Entry → Message → Type 0
IsPutRight s made (Asked side request) = IsAsked s made request
IsPutRight s made (Replied side m frame) = IsBytes frame

-- the state of the member of this number
pub record IsStored (s : Setup) (made : List Entry) (m : ℕ) (k : KeptState) : Type 0 where
  pub state : IsKeptState k
  pub member : k.member ≡ numbered m
  pub folder : k.folder ≡ s.folder
  pub shape : k.shape ≡ s.shape
  pub master : k.master ≡ master_of s
  pub pending : IfSome k.pending (λ p. IsMade made (entry_of (fresh s m) p))

-- a search has at most 8 keys for each domain
pub record HasFewKeys (q : Query) : Type 0 where
  pub lead : length q.lead_keys ≤ 8
  pub follow : length q.follow_keys ≤ 8

-- so many steps from the beginning, a command is at such a phase
abbrev pub IsPhase : List Entry → Phase → ℕ → Type 0
IsPhase made (Updating e at) step = IsMade made e × IsInRange at × (step ≤ asks_before at)
IsPhase made (Measuring word None) step = step ≤ 0
IsPhase made (Measuring word (Some lead)) step = (step ≤ 1) × IsBytes lead
IsPhase made (Searching q None) step = (step ≤ 2) × (q.version ≤ 1048576) × HasFewKeys q
IsPhase made (Searching q (Some lead)) step = (step ≤ 3) × (q.version ≤ 1048576) × HasFewKeys q × IsBytes lead
IsPhase made (Ended outcome) step = Unit {0}

-- a command of the member of this number as it runs
pub record IsRunning (s : Setup) (made : List Entry) (m : ℕ) (run : Run) : Type 0 where
  pub kept : IsStored s made m run.kept
  pub serial : run.serial < 2 ^ 64
  pub phase : IsPhase made run.phase run.step

-- the member of this number as it stands
abbrev pub IsStation : Setup → List Entry → ℕ → Station → Type 0
IsStation s made m (Idle k) = IsStored s made m k
IsStation s made m (Busy run) = IsRunning s made m run

-- the next serial of the member of a number, or 0 where there is none
abbrev pub next_in : Option Station → ℕ
next_in None = 0
next_in (Some s) = (kept_in s).next_serial

-- the same of a list of members
abbrev pub next_of : List Station → ℕ → ℕ
next_of members m = next_in (slice_get members m)

-- an update that was made: it is in range and sealed, and its member has used up its serial
pub record IsKnown (s : Setup) (members : List Station) (e : Entry) : Type 0 where
  pub entry : IsEntry e
  pub sealed : IsSealed (keys_in s) e
  pub below : e.id.serial < next_of members e.id.member.0

-- what each event keeps of the histories, the messages and the members
pub record IsGood (s : Setup) (w : World) (made : List Entry) : Type 0 where
  pub folders : (side : Side) → IsFolder s made (folder_of w side)
  pub messages : AllByRecursion (IsPutRight s made) w.messages
  pub members : (m : ℕ) → IfSome (slice_get w.members m) (IsStation s made m)
  pub known : AllByRecursion (IsKnown s w.members) made
