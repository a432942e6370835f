-- How a folder changes: an update is staged, or a staged one joins the history.
use Rattle.std.specs.Prelude.{ℕ, ◌≡◌, ◌<◌, ◌≤◌, ◌^◌, ◌==◌, ◌&&◌, nat_lt, Bool, true, if◌then◌else◌, List, [], ◌∷◌, ◌++◌, length, map, replicate, slice_set, Option, Some, None, Result, Ok, Err}
use Rattle.std.specs.List.{fold, AllByRecursion}
use Rattle.dory_base.specs.Dims.{Dims}
use Rattle.dory_base.specs.History.{IsEntryOf}
use Rattle.dory_base.specs.Log.{Log, last_of, staged_by, staged_as}
use Rattle.dory_base.specs.declared.ids.Side.{Side}
use Rattle.dory_base.specs.declared.ids.UpdateId.{UpdateId}
use Rattle.dory_base.specs.declared.entry.Entry.{Entry}
use Rattle.dory_base.specs.declared.event.Event.{Event}
use Rattle.dory_base.specs.declared.event.Event.TheVariants.{Staged, Appended}
use Rattle.dory_base.specs.declared.plan.StagePlan.{StagePlan}
use Rattle.dory_base.specs.declared.plan.StagePlan.TheVariants.{New, Same, Done}
use Rattle.dory_base.specs.declared.plan.Plan.{Plan}
use Rattle.dory_base.specs.declared.plan.Plan.TheVariants.{Again, Fresh}
use Rattle.dory_base.specs.declared.refusal.Refusal.{Refusal}

-- ---- the log

-- its member's place has the update
abbrev pub log_staged : Log → Entry → Log
log_staged log e = record { role = log.role; shape = log.shape; ids = log.ids; staged = slice_set log.staged e.id.member.0 (Some e) }

-- what was staged leaves its place, and its id comes last; nothing happens where nothing was staged
abbrev pub log_appended : Log → UpdateId → Option Entry → Log
log_appended log id None = log
log_appended log id (Some e) = record { role = log.role; shape = log.shape; ids = log.ids ++ id ∷ []; staged = slice_set log.staged id.member.0 None }

-- the log after an event
abbrev pub log_after : Log → Event → Log
log_after log (Staged e) = log_staged log e
log_after log (Appended id) = log_appended log id (staged_as log.staged id)

-- ---- the folder

-- a folder's role, shape and number of retained versions, its history, and a place for what each of its 64 members has staged
pub record State : Type 0 where
  pub role : Side
  pub shape : Dims
  pub retained : ℕ
  pub history : List Entry
  pub staged : List (Option Entry)

-- a folder with no update
abbrev pub empty_state : Side → Dims → ℕ → State
empty_state role shape retained = record { role = role; shape = shape; retained = retained; history = []; staged = replicate 64 None }

-- the ids of updates, in their order
abbrev pub ids_of : List Entry → List UpdateId
ids_of history = map (λ e. e.id) history

-- what the folder decides by
abbrev pub log_of : State → Log
log_of s = record { role = s.role; shape = s.shape; ids = ids_of s.history; staged = s.staged }

-- its member's place has the update
abbrev pub state_staged : State → Entry → State
state_staged s e = record { role = s.role; shape = s.shape; retained = s.retained; history = s.history; staged = slice_set s.staged e.id.member.0 (Some e) }

-- what was staged leaves its place and comes last; nothing happens where nothing was staged
abbrev pub state_appended : State → UpdateId → Option Entry → State
state_appended s id None = s
state_appended s id (Some e) =
    record { role = s.role; shape = s.shape; retained = s.retained; history = s.history ++ e ∷ []; staged = slice_set s.staged id.member.0 None }

-- the folder after an event
abbrev pub after : State → Event → State
after s (Staged e) = state_staged s e
after s (Appended id) = state_appended s id (staged_as s.staged id)

-- the folder after these events
abbrev pub state_of : Side → Dims → ℕ → List Event → State
state_of role shape retained events = fold after (empty_state role shape retained) events

-- ---- requests

-- the event that a request to stage makes: a new update is staged
abbrev pub event_of_stage : Entry → Result StagePlan Refusal → Option Event
event_of_stage e (Ok New) = Some (Staged e)
event_of_stage e (Ok Same) = None
event_of_stage e (Ok (Done number)) = None
event_of_stage e (Err code) = None

-- the event that a request to commit makes: the update joins the history where it is fresh
abbrev pub event_of_plan : UpdateId → Result Plan Refusal → Option Event
event_of_plan id (Ok (Fresh number)) = Some (Appended id)
event_of_plan id (Ok (Again number)) = None
event_of_plan id (Err code) = None

-- the folder after an event, if there is one
abbrev pub after_maybe : State → Option Event → State
after_maybe s None = s
after_maybe s (Some event) = after s event

-- ---- what is true of every folder

-- a serial: at least 1, and below 2 to the 64
pub record IsSerial (serial : ℕ) : Type 0 where
  pub some : 1 ≤ serial
  pub few : serial < 2 ^ 64

-- the id of an update of one of the 64 members
pub record IsMembersId (id : UpdateId) : Type 0 where
  pub member : id.member.0 ≤ 63
  pub serial : IsSerial id.serial

-- the serials of a member rise strictly, and are above this one
abbrev pub rises : ℕ → List UpdateId → ℕ → Bool
rises serial [] member = true
rises serial (x ∷ ids) member = if x.member.0 == member then (nat_lt serial x.serial && rises x.serial ids member) else rises serial ids member

-- a member's own id, with a serial above all that it has in the history
pub record IsAbove (ids : List UpdateId) (member : ℕ) (id : UpdateId) : Type 0 where
  pub own : id.member.0 ≡ member
  pub above : last_of ids member < id.serial
  pub serial : IsSerial id.serial

-- a member's place is empty or has such an update
abbrev pub IsPlace : List UpdateId → ℕ → Option Entry → Type 0
IsPlace ids member None = Unit {0}
IsPlace ids member (Some e) = IsAbove ids member e.id

-- what is true of every log
pub record IsLog (log : Log) : Type 0 where
  pub few : length log.ids ≤ 1048576
  pub ids : AllByRecursion IsMembersId log.ids
  pub rising : (member : ℕ) → rises 0 log.ids member ≡ true
  pub places : length log.staged ≡ 64
  pub above : (member : ℕ) → IsPlace log.ids member (staged_by log.staged member)

-- a place is empty or has an update of this shape
abbrev pub IsStagedOf : Dims → Option Entry → Type 0
IsStagedOf shape None = Unit {0}
IsStagedOf shape (Some e) = IsEntryOf shape e

-- what is true of every folder
pub record IsState (s : State) : Type 0 where
  pub log : IsLog (log_of s)
  pub entries : AllByRecursion (IsEntryOf s.shape) s.history
  pub staged : (member : ℕ) → IsStagedOf s.shape (staged_by s.staged member)
