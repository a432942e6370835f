-- What is kept when a call has ended.
use Rattle.std.specs.Prelude.{ℕ, ◌≡◌, ◌≤◌, List, Some}
use Rattle.dory_io.specs.Bytes.{Stays}
use Rattle.dory_cli.specs.Line.{line_of as read_of}
use Rattle.dory_state.specs.declared.kept.KeptState.{KeptState}
use Rattle.dory_member.specs.declared.outcome.Outcome.{Outcome}
use Rattle.dory_member.specs.declared.phase.Run.{Run}
use Rattle.dory_member.specs.Course.{ended_of, run_after}
use Rattle.dory_client.specs.declared.start.Todo.{Todo}
use Rattle.dory_client.specs.declared.end.ClientEnd.{ClientEnd}
use Rattle.dory_client.specs.declared.end.ClientEnd.TheVariants as ends
use Rattle.dory_client.specs.ByWords.{ByWords}
use Rattle.dory_client.specs.CallEffects.{IsBegun}
use Rattle.dory_client.specs.CommandEnds.{IsGood, ExchangedBetween}
use Rattle.dory_client.specs.Ends.{IsUndone}
use Rattle.dory_client.specs.Kept.{KeepsOf}
use Rattle.dory_drive.specs.Kept.{KeepsNow, OldOrNew}
use Rattle.dory_client.specs.Scene.{Moment}
use Rattle.dory_drive.specs.Scene.{Scene, AskedNothing}

-- What a command leaves: one of three states, of which none has seen less than the one before. Where it is done, the last.
pub data KeptAfter (t : Todo) (seed : List ℕ) (before after : Moment) (end : ClientEnd) : Type 0 where
  -- the old state, where neither domain was asked
  Old : AskedNothing before.outside after.outside → Stays before.outside.kept after.outside.kept → IsUndone end → KeptAfter t seed before after end
  -- the one that is saved before the first ask
  First : (k : KeptState) (run : Run) → IsBegun t seed before after k run → KeepsNow before.outside.kept after.outside.kept run.kept
      → k.seen ≤ run.kept.seen → IsUndone end → KeptAfter t seed before after end
  -- the finished one
  Finished : (k : KeptState) (run : Run) (frames : List (List ℕ)) (outcome : Outcome) → IsBegun t seed before after k run
      → ExchangedBetween run frames before.outside after.outside → ended_of run frames ≡ Some outcome → IsGood outcome
      → KeepsOf run before.outside.kept after.outside.kept (run_after run frames).kept → k.seen ≤ (run_after run frames).kept.seen
      → KeptAfter t seed before after end

-- a first state that began was kept where the call is done, and otherwise may be
pub record BeginningKept (first : KeptState) (before after : Scene) (end : ClientEnd) : Type 0 where
  pub asked : AskedNothing before after
  pub kept : OldOrNew before.kept after.kept first
  pub done : end ≡ ends.Done → KeepsNow before.kept after.kept first

-- nothing was asked, and what is kept is as it was
pub record Unchanged (before after : Scene) (end : ClientEnd) : Type 0 where
  pub asked : AskedNothing before after
  pub kept : Stays before.kept after.kept
  pub undone : IsUndone end

-- what a call of these words leaves kept. Words that are no line change nothing
abbrev pub CallKeeps : List (List ℕ) → List ℕ → Moment → Moment → ClientEnd → Type 0
CallKeeps words seed before after end =
    ByWords (read_of words) (λ first. BeginningKept first before.outside after.outside end)
    (λ t. KeptAfter t seed before after end) (Unchanged before.outside after.outside end)
