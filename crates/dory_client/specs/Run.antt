-- A whole call, from its words to its end, in the order in which it may be refused.
use Rattle.std.specs.Prelude.{ℕ, ◌≡◌, ◌⊎◌, List, [], ◌∷◌, ◌++◌, Option, Some, None, Result, Ok, Err, codes}
use Rattle.dory_io.specs.Bytes.{Stays, Tells}
use Rattle.dory_cli.specs.Line.{line_of}
use Rattle.dory_cli.specs.declared.line.Line.{Line}
use Rattle.dory_cli.specs.declared.fault.UsageFault.{UsageFault}
use Rattle.dory_state.specs.declared.kept.KeptState.{KeptState}
use Rattle.dory_state.specs.declared.fault.StateFault.{StateFault}
use Rattle.dory_state.specs.Spelling.{IsKeptState}
use Rattle.dory_state.specs.Reading.{state_of}
use Rattle.dory_member.specs.declared.outcome.Fault.{Fault}
use Rattle.dory_member.specs.declared.phase.Run.{Run}
use Rattle.dory_member.specs.Course.{begun}
use Rattle.dory_client.specs.declared.start.Todo.{Todo}
use Rattle.dory_client.specs.declared.start.Start.{Start}
use Rattle.dory_client.specs.declared.start.Start.TheVariants.{Init, Act}
use Rattle.dory_client.specs.declared.end.ClientEnd.{ClientEnd}
use Rattle.dory_client.specs.declared.end.ClientEnd.TheVariants as ends
use Rattle.dory_client.specs.declared.input.InputEnd.{InputEnd}
use Rattle.dory_client.specs.Command.{HasText, HasNoText}
use Rattle.dory_client.specs.Ends.{fault_end, input_end, IsKeeperEnd}
use Rattle.dory_client.specs.CommandEnds.{CommandEnds, Prints}
use Rattle.dory_drive.specs.Kept.{KeepsNow, OldOrNew}
use Rattle.dory_client.specs.Scene.{Moment, IsUnread}
use Rattle.dory_drive.specs.Scene.{AskedNothing, IsUntouched}
use Rattle.dory_client.specs.Start.{start_of, command_of}

-- nothing was read, asked, kept or written
abbrev pub IsQuiet : Moment → Moment → Type 0
IsQuiet before after = IsUnread before.input after.input × IsUntouched before.outside after.outside

-- a command in the state that is kept
pub data Acts (k : KeptState) (seed : List ℕ) (t : Todo) (before after : Moment) (end : ClientEnd) : Type 0 where
  -- it is refused, and its input wasn't read
  Refused : (text : List ℕ) (f : Fault) → IsUnread before.input after.input
      → begun k seed (command_of k text t) ≡ Err f → IsUntouched before.outside after.outside
      → end ≡ fault_end f → Acts k seed t before after end
  -- its input failed or is too long, or memory ran out where it was read
  NoText : (e : InputEnd) → HasNoText k t before.input after.input e → IsUntouched before.outside after.outside
      → end ≡ input_end e → Acts k seed t before after end
  -- memory ran out where it was to begin
  NoRoom : (text : List ℕ) → HasText k t before.input after.input text → IsUntouched before.outside after.outside
      → end ≡ ends.NoMemory → Acts k seed t before after end
  -- it began, and went on so
  Began : (text : List ℕ) (run : Run) → HasText k t before.input after.input text → begun k seed (command_of k text t) ≡ Ok run
      → CommandEnds run before.outside after.outside end → Acts k seed t before after end

-- a first state is kept, and `ready` is written
pub data StateBegins (first : KeptState) (kept kept' : Option (Option (List ℕ))) (written written' : Option (List ℕ)) (end : ClientEnd) : Type 0 where
  Unsaved : OldOrNew kept kept' first → Stays written written' → IsKeeperEnd end → StateBegins first kept kept' written written' end
  Saved : KeepsNow kept kept' first → Prints (codes "ready" ++ 10 ∷ []) written written' end → StateBegins first kept kept' written written' end

-- kept bytes are read
abbrev pub ActsIn : Result KeptState StateFault → List ℕ → Todo → Moment → Moment → ClientEnd → Type 0
ActsIn (Ok k) seed t before after end = IsKeptState k × Acts k seed t before after end
ActsIn (Err fault) seed t before after end = IsQuiet before after × (end ≡ ends.StateForm fault)

-- or memory runs out where they are read
abbrev pub MayAct : Result KeptState StateFault → List ℕ → Todo → Moment → Moment → ClientEnd → Type 0
MayAct read seed t before after end = (IsQuiet before after × (end ≡ ends.NoMemory)) ⊎ ActsIn read seed t before after end

-- a first state begins where nothing is kept, and a command acts in what is kept
abbrev pub StartsIn : Start → Option (List ℕ) → List ℕ → Moment → Moment → ClientEnd → Type 0
StartsIn (Init first) None seed before after end =
    IsUnread before.input after.input × AskedNothing before.outside after.outside
    × StateBegins first before.outside.kept after.outside.kept before.outside.written after.outside.written end
StartsIn (Init first) (Some bytes) seed before after end = IsQuiet before after × (end ≡ ends.HasState)
StartsIn (Act t) None seed before after end = IsQuiet before after × (end ≡ ends.NoState)
StartsIn (Act t) (Some bytes) seed before after end = MayAct (state_of bytes) seed t before after end

-- what is kept is loaded
pub data Loads (s : Start) (seed : List ℕ) (before after : Moment) (end : ClientEnd) : Type 0 where
  Unloaded : IsQuiet before after → IsKeeperEnd end → Loads s seed before after end
  Loaded : (kept : Option (List ℕ)) → Tells before.outside.kept kept → StartsIn s kept seed before after end → Loads s seed before after end

-- a line, or the first thing that is wrong with the words
abbrev pub Runs : Result Line UsageFault → List ℕ → Moment → Moment → ClientEnd → Type 0
Runs (Ok line) seed before after end = Loads (start_of line) seed before after end
Runs (Err fault) seed before after end = IsQuiet before after × ((end ≡ ends.Usage fault) ⊎ (end ≡ ends.NoMemory))

-- the whole call
abbrev pub IsRun : List (List ℕ) → List ℕ → Moment → Moment → ClientEnd → Type 0
IsRun words seed before after end = Runs (line_of words) seed before after end
