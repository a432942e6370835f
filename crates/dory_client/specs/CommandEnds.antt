-- How a command goes on that began, and how the call ends: by its conversation, and by what is written of it.
use Rattle.std.specs.Prelude.{ℕ, ◌≡◌, List, [], ◌∷◌, ◌++◌, Option, Ok, Err}
use Rattle.std.specs.Io.KnownBytes.{Appends}
use Rattle.dory_io.specs.Bytes.{Stays}
use Rattle.dory_io.specs.Output.{AppendsLess}
use Rattle.dory_member.specs.declared.outcome.Outcome.{Outcome}
use Rattle.dory_member.specs.declared.outcome.Outcome.TheVariants.{Posted, Removed, Accepted, NothingPending, Lengths, Rotated, Failed}
use Rattle.dory_member.specs.declared.outcome.Fault.{Fault}
use Rattle.dory_member.specs.declared.phase.Run.{Run}
use Rattle.dory_state.specs.declared.kept.KeptState.{KeptState}
use Rattle.dory_member.specs.declared.command.Command.{Command}
use Rattle.dory_member.specs.Course.{begun}
use Rattle.dory_member.specs.Texts.{text_of_outcome}
use Rattle.dory_client.specs.declared.end.ClientEnd.{ClientEnd}
use Rattle.dory_client.specs.declared.end.ClientEnd.TheVariants as ends
use Rattle.dory_client.specs.Ends.{broken_end, fault_end}
use Rattle.dory_client.specs.Way.{ExchangedInTurn}
use Rattle.dory_drive.specs.declared.broken.Broken.{Broken}
use Rattle.dory_drive.specs.Driven.{BreaksOff, ComesTo}
use Rattle.dory_drive.specs.Member.{member_course}
use Rattle.dory_drive.specs.Scene.{Scene, IsUntouched, WroteNothing}
use Rattle.dory_drive.specs.Way.{scene_links}

-- a text was to be written: it was, or the first part of it, or memory ran out and nothing was
pub data Prints (text : List ℕ) (before now : Option (List ℕ)) (end : ClientEnd) : Type 0 where
  Wrote : Appends before now text → end ≡ ends.Done → Prints text before now end
  WrotePart : AppendsLess before now text → end ≡ ends.OutputFault → Prints text before now end
  Untold : Stays before now → end ≡ ends.NoMemory → Prints text before now end

-- the line that is written of an outcome
abbrev pub outcome_line : Outcome → List ℕ
outcome_line outcome = text_of_outcome outcome ++ 10 ∷ []

-- What an outcome comes to: a failure is the call's end, and nothing is written; of any other, the line was to be written.
abbrev pub OutcomePrints : Outcome → Option (List ℕ) → Option (List ℕ) → ClientEnd → Type 0
OutcomePrints (Posted doc number) before now end = Prints (outcome_line (Posted doc number)) before now end
OutcomePrints (Removed doc number) before now end = Prints (outcome_line (Removed doc number)) before now end
OutcomePrints (Accepted answer) before now end = Prints (outcome_line (Accepted answer)) before now end
OutcomePrints NothingPending before now end = Prints (outcome_line NothingPending) before now end
OutcomePrints (Lengths lead follow seen) before now end = Prints (outcome_line (Lengths lead follow seen)) before now end
OutcomePrints (Rotated epoch) before now end = Prints (outcome_line (Rotated epoch)) before now end
OutcomePrints (Failed f) before now end = Stays before now × (end ≡ fault_end f)

-- the outcome is no failure
abbrev pub IsGood : Outcome → Type 0
IsGood outcome = (f : Fault) → ¬ (outcome ≡ Failed f)

-- these frames came to a run, each to what it asked
abbrev pub ExchangedBetween : Run → List (List ℕ) → Scene → Scene → Type 0
ExchangedBetween run frames before after = ExchangedInTurn run frames (scene_links before) (scene_links after)

-- how a command goes on
pub data CommandEnds (run : Run) (before after : Scene) (end : ClientEnd) : Type 0 where
  -- its conversation broke off, and nothing was written
  BrokeOff : (broken : Broken) → BreaksOff member_course run before after broken → WroteNothing before after → end ≡ broken_end broken
      → CommandEnds run before after end
  -- it failed, or memory ran out, and nothing was written
  CommandFailed : (f : Fault) → ComesTo member_course run before after (Failed f) → WroteNothing before after → end ≡ fault_end f
      → CommandEnds run before after end
  -- it came to its end, and the line of its outcome was to be written
  CommandTold : (outcome : Outcome) → IsGood outcome → ComesTo member_course run before after outcome
      → Prints (outcome_line outcome) before.written after.written end → CommandEnds run before after end

-- a command goes on where it begins; where it is refused, or memory runs out, nothing was asked, kept or written
pub data CommandEndsFrom (k : KeptState) (seed : List ℕ) (c : Command) (before after : Scene) (end : ClientEnd) : Type 0 where
  NotBegun : (f : Fault) → begun k seed c ≡ Err f → IsUntouched before after → end ≡ fault_end f → CommandEndsFrom k seed c before after end
  NoRoom : IsUntouched before after → end ≡ ends.NoMemory → CommandEndsFrom k seed c before after end
  IsBegun : (run : Run) → begun k seed c ≡ Ok run → CommandEnds run before after end → CommandEndsFrom k seed c before after end
