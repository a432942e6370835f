-- What a call ends with where nothing outside failed, by its line.
use Rattle.std.specs.Prelude.{ℕ, ◌≡◌, ◌⊎◌, ◌≤◌, ◌&&◌, ⊤, false, List, Option, Some, None, Ok, length}
use Rattle.std.specs.Io.KnownBytes.{Appends}
use Rattle.dory_base.specs.declared.ids.Side.{Side}
use Rattle.dory_base.specs.declared.ids.UpdateId.{UpdateId}
use Rattle.dory_base.specs.declared.refusal.Refusal.{Refusal}
use Rattle.dory_io.specs.Causes.{Rose}
use Rattle.dory_link.specs.Told.{Told}
use Rattle.dory_verify.specs.declared.answer.Answer.{Answer}
use Rattle.dory_verify.specs.declared.fault.CheckFault.TheVariants as fault
use Rattle.dory_verify.specs.Answer.{IsAnswer}
use Rattle.dory_cli.specs.Line.{line_of}
use Rattle.dory_cli.specs.declared.line.Line.{Line}
use Rattle.dory_cli.specs.declared.line.Line.TheVariants as line
use Rattle.dory_state.specs.declared.kept.KeptState.{KeptState}
use Rattle.dory_state.specs.declared.kept.Pending.{Pending}
use Rattle.dory_member.specs.Course.{folder_keys}
use Rattle.dory_member.specs.Draw.{is_last_epoch, is_last_serial, is_used_up}
use Rattle.dory_member.specs.declared.outcome.Outcome.TheVariants.{Accepted}
use Rattle.dory_drive.specs.Scene.{AskedNothing, Part, Keeper, Link, Output, Scene, link_faults}
use Rattle.dory_drive.specs.Way.{scene_links}
use Rattle.dory_client.specs.declared.end.ClientEnd.{ClientEnd}
use Rattle.dory_client.specs.declared.end.ClientEnd.TheVariants as ends
use Rattle.dory_client.specs.CommandEnds.{outcome_line}
use Rattle.dory_client.specs.Complete.{AreFresh, AtVersion, BothTell, KeepsState}
use Rattle.dory_client.specs.Input.{text_limit}
use Rattle.dory_client.specs.Scene.{Input, Moment}

-- the count of this part's faults didn't rise
abbrev pub Worked : Scene → Scene → Part → Type 0
Worked before after Keeper = ¬ Rose before.faults.keeper after.faults.keeper
Worked before after (Link side) = ¬ Rose (link_faults side before) (link_faults side after)
Worked before after Output = ¬ Rose before.faults.output after.faults.output

-- no count rose
abbrev pub AllWorked : Scene → Scene → Type 0
AllWorked before after = (part : Part) → Worked before after part

-- it is done, or memory ran out
abbrev pub EndsDone : ClientEnd → Type 0
EndsDone end = (end ≡ ends.Done) ⊎ (end ≡ ends.NoMemory)

-- it is done, and this is so, or a domain refused, or memory ran out
pub data EndsWell (says : Type 0) (end : ClientEnd) : Type 0 where
  IsDone : end ≡ ends.Done → says → EndsWell says end
  IsRefused : (side : Side) (code : Refusal) → end ≡ ends.Check (fault.Refused side code) → EndsWell says end
  OutOfMemory : end ≡ ends.NoMemory → EndsWell says end

-- the same of an update. That another update has its number is told as diverged
abbrev pub UpdateEnds : ClientEnd → Type 0
UpdateEnds end = EndsWell ⊤ end ⊎ ((number : ℕ) × (lead_id : UpdateId) × (follow_id : UpdateId) × (end ≡ ends.Diverged number lead_id follow_id))

-- an answer was written that names this version, and lists exactly the documents whose rows there hold all the word's bits
pub record IsAnswered (k : KeptState) (word : List ℕ) (version : ℕ) (told : Told) (before after : Scene) : Type 0 where
  pub answer : Answer
  pub named : answer.version ≡ version
  pub lists : IsAnswer (folder_keys k) k.shape told.history version word answer.docs
  pub written : Appends before.written after.written (outcome_line (Accepted answer))

-- the bytes left of an input are told, and no more than a text has
abbrev pub AreFew : Option (List ℕ) → Type 0
AreFew None = ⊥
AreFew (Some bytes) = length bytes ≤ text_limit

-- a text can be read: it is short enough, and the input didn't fail
pub record IsReadable (input input' : Input) : Type 0 where
  pub short : AreFew input.left
  pub worked : ¬ Rose input.faults input'.faults

-- a state in which a post or a removal may be made: none is pending, and a serial is left
pub record MayUpdate (k : KeptState) : Type 0 where
  pub finished : k.pending ≡ None
  pub serial : is_last_serial k ≡ false

-- a resume in a state with this pending asks nothing where it is none
abbrev pub ResumeEnds : Option Pending → KeptState → Scene → Scene → ClientEnd → Type 0
ResumeEnds None k before after end = AskedNothing before after × (Worked before after Keeper → Worked before after Output → EndsDone end)
ResumeEnds (Some p) k before after end = AllWorked before after → is_last_serial k ≡ false → BothTell k.folder.0 (scene_links before) → UpdateEnds end

-- What each line ends with. A first state begins where none is kept, and any other line acts in the state that is told as
-- kept. `rotate`, and a `resume` with nothing pending, ask nothing; the others want both links to tell the folder.
abbrev pub LineEnds : Line → Moment → Moment → ClientEnd → Type 0
LineEnds (line.Init folder member shape master serial) before after end =
    before.outside.kept ≡ Some None → Worked before.outside after.outside Keeper → Worked before.outside after.outside Output → EndsDone end
LineEnds (line.Post doc) before after end =
    (k : KeptState) → KeepsState before.outside.kept k → MayUpdate k → (is_used_up k && is_last_epoch k) ≡ false → IsReadable before.input after.input
    → AllWorked before.outside after.outside → BothTell k.folder.0 (scene_links before.outside) → UpdateEnds end
LineEnds (line.Remove doc) before after end =
    (k : KeptState) → KeepsState before.outside.kept k → MayUpdate k → AllWorked before.outside after.outside
    → BothTell k.folder.0 (scene_links before.outside) → UpdateEnds end
LineEnds (line.Search word) before after end =
    (k : KeptState) → KeepsState before.outside.kept k → is_last_serial k ≡ false → AllWorked before.outside after.outside
    → AtVersion k before.outside after.outside (λ version told. EndsWell (IsAnswered k word version told before.outside after.outside) end)
LineEnds line.Resume before after end = (k : KeptState) → KeepsState before.outside.kept k → ResumeEnds k.pending k before.outside after.outside end
LineEnds line.Latest before after end =
    (k : KeptState) → KeepsState before.outside.kept k → is_last_serial k ≡ false → AllWorked before.outside after.outside
    → (t : BothTell k.folder.0 (scene_links before.outside)) → AreFresh k.seen t.lead t.follow → EndsDone end
LineEnds line.Rotate before after end =
    AskedNothing before.outside after.outside
    × ((k : KeptState) → KeepsState before.outside.kept k → is_last_epoch k ≡ false
    → Worked before.outside after.outside Keeper → Worked before.outside after.outside Output → EndsDone end)

-- what a call of these words ends with
abbrev pub CallEnds : List (List ℕ) → Moment → Moment → ClientEnd → Type 0
CallEnds words before after end = (line : Line) → line_of words ≡ Ok line → LineEnds line before after end
