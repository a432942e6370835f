-- What a command that is done did: which update both domains have at one number, and how far the member has seen.
use Rattle.std.specs.Prelude.{ℕ, ◌≡◌, ◌≤◌, ◌-◌, ⊤, List, length, slice_get, Option, Some, None, Ok}
use Rattle.std.specs.Io.KnownBytes.{Appends}
use Rattle.dory_base.specs.Step.{ids_of}
use Rattle.dory_base.specs.declared.entry.Entry.{Entry}
use Rattle.dory_base.specs.declared.ids.UpdateId.{UpdateId}
use Rattle.dory_io.specs.Bytes.{Tells}
use Rattle.dory_link.specs.Told.{Told}
use Rattle.dory_cli.specs.Line.{line_of as read_of}
use Rattle.dory_state.specs.declared.kept.KeptState.{KeptState}
use Rattle.dory_state.specs.Spelling.{IsKeptState}
use Rattle.dory_state.specs.Reading.{state_of}
use Rattle.dory_member.specs.declared.phase.Phase.{Phase}
use Rattle.dory_member.specs.declared.phase.Phase.TheVariants.{Updating, Measuring, Searching, Ended}
use Rattle.dory_member.specs.declared.phase.Run.{Run}
use Rattle.dory_member.specs.Course.{begun, updated}
use Rattle.dory_client.specs.declared.start.Todo.{Todo}
use Rattle.dory_client.specs.ByWords.{ByWords}
use Rattle.dory_client.specs.Command.{HasText}
use Rattle.dory_client.specs.CommandEnds.{outcome_line}
use Rattle.dory_client.specs.Kept.{KeepsOf}
use Rattle.dory_client.specs.Scene.{Moment}
use Rattle.dory_drive.specs.Scene.{Scene}
use Rattle.dory_client.specs.Start.{command_of}

-- a history has the update of this id at this number, counted from 1
pub record HasAt (history : List Entry) (number : ℕ) (id : UpdateId) : Type 0 where
  pub counted : 1 ≤ number
  pub there : slice_get (ids_of history) (number - 1) ≡ Some id

-- where folders are told, this one is there, and its history has the update at this number
abbrev pub ToldAt : Option (ℕ → Option Told) → Option (ℕ → Option Told) → ℕ → ℕ → UpdateId → Type 0
ToldAt None now folder number id = ⊤
ToldAt (Some before) None folder number id = ⊥
ToldAt (Some before) (Some now) folder number id = (t : Told) × (now folder ≡ Some t) × HasAt t.history number id

-- both domains have the update at one number, which was written
pub record IsConfirmed (folder : ℕ) (e : Entry) (before after : Scene) : Type 0 where
  pub number : ℕ
  pub by_lead : ToldAt before.lead.folders after.lead.folders folder number e.id
  pub by_follow : ToldAt before.follow.folders after.follow.folders folder number e.id
  pub written : Appends before.written after.written (outcome_line (updated e.change e.doc number))

-- the same of a command that works on an update
abbrev pub Confirms : ℕ → Phase → Scene → Scene → Type 0
Confirms folder (Updating e at) before after = IsConfirmed folder e before after
Confirms folder (Measuring word lead) before after = ⊤
Confirms folder (Searching q lead) before after = ⊤
Confirms folder (Ended outcome) before after = ⊤

-- a version seen that a folder's history has, before and after: where it had the one seen before, it has the one seen now
abbrev pub SeenOf : Option Told → Option Told → ℕ → ℕ → Type 0
SeenOf None now before after = ⊤
SeenOf (Some old) None before after = ⊥
SeenOf (Some old) (Some new) before after = before ≤ length old.history → after ≤ length new.history

-- the same where folders are told
abbrev pub SeenBy : Option (ℕ → Option Told) → Option (ℕ → Option Told) → ℕ → ℕ → ℕ → Type 0
SeenBy None now folder before after = ⊤
SeenBy (Some old) None folder before after = ⊥
SeenBy (Some old) (Some new) folder before after = SeenOf (old folder) (new folder) before after

-- a command that was done in a state
pub record IsDone (k : KeptState) (run : Run) (before after : Scene) : Type 0 where
  pub last : KeptState
  pub kept : KeepsOf run before.kept after.kept last
  pub rises : k.seen ≤ last.seen
  pub lead_seen : SeenBy before.lead.folders after.lead.folders k.folder.0 k.seen last.seen
  pub follow_seen : SeenBy before.follow.folders after.follow.folders k.folder.0 k.seen last.seen
  pub confirmed : Confirms k.folder.0 run.phase before after

-- the command of a line, in the state that is kept, and its run
pub record IsBegun (t : Todo) (seed : List ℕ) (before after : Moment) (k : KeptState) (run : Run) : Type 0 where
  pub bytes : List ℕ
  pub text : List ℕ
  pub is_kept : Tells before.outside.kept (Some bytes)
  pub is_state : state_of bytes ≡ Ok k
  pub in_range : IsKeptState k
  pub has_text : HasText k t before.input after.input text
  pub begins : begun k seed (command_of k text t) ≡ Ok run

-- what words that were done did: a first state begins, or a command was done in the state that is kept
abbrev pub CallEffects : List (List ℕ) → List ℕ → Moment → Moment → Type 0
CallEffects words seed before after =
    ByWords (read_of words) (λ first. ⊤) (λ t. (k : KeptState) × (run : Run) × IsBegun t seed before after k run × IsDone k run before.outside after.outside) ⊥
