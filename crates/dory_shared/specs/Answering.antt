-- One call of a seat is answered at one point of one history.
use Rattle.std.specs.Prelude.{ℕ, ◌≡◌, ◌⊎◌, List, Option, Some, None}
use Rattle.dory_base.specs.declared.event.Event.{Event}
use Rattle.dory_base.specs.declared.ids.Side.{Side}
use Rattle.dory_base.specs.declared.refusal.Refusal.TheVariants.{NoFolder, NoMemory}
use Rattle.dory_base.specs.Step.{log_of}
use Rattle.dory_wire.specs.declared.message.Want.{Want}
use Rattle.dory_wire.specs.declared.message.What.{What}
use Rattle.dory_wire.specs.declared.message.What.TheVariants.{Refused}
use Rattle.dory_wire.specs.StepReply.{answer_of, event_of, IsFinding, IsEventful}
use Rattle.dory_shelf.specs.Published.{Published, IsLawful, Grew, with_event}
use Rattle.dory_shared.specs.Seen.{Seen, folder_as, seen_in, with_seen}

-- the history with the operation that was made, if one was
abbrev pub with_made : Published → Option Event → Published
with_made h None = h
with_made h (Some e) = with_event h e

-- a step of the folder at this history: its answer, and exactly its operation is published
pub record Stepped (role : Side) (h : Published) (want : Want) (what : What) (left : Published) : Type 0 where
  pub answer : what ≡ answer_of (folder_as role h) want
  pub published : left ≡ with_made h (event_of (log_of (folder_as role h)) want)

-- memory ran out, where a step finds, stages or appends; nothing is published
pub record RanOut (role : Side) (h : Published) (want : Want) (what : What) (left : Published) : Type 0 where
  pub takes : IsFinding (answer_of (folder_as role h) want) ⊎ IsEventful (event_of (log_of (folder_as role h)) want)
  pub answer : what ≡ Refused NoMemory
  pub published : left ≡ h

-- what is answered at a history, and the history that this leaves
abbrev pub AnswersAt : Side → Published → Want → What → Published → Type 0
AnswersAt role h want what left = Stepped role h want what left ⊎ RanOut role h want what left

-- The call is answered at one lawful history, which begins with all that was seen of the folder. What it leaves is then seen.
pub record IsAnsweredAt (before : Seen) (want : Want) (what : What) (now at left : Published) : Type 0 where
  pub lawful : IsLawful at
  pub begins : Grew before.known at
  pub answers : AnswersAt before.role at want what left
  pub seen : Grew left now

-- so it is at some history
abbrev pub IsAnswered : Seen → Want → What → Published → Type 0
IsAnswered before want what now = (at : Published) × (left : Published) × IsAnsweredAt before want what now at left

-- what a seat is answered, and what it then has seen of its folders
abbrev pub AnswersBy : Option Seen → List Seen → ℕ → Want → What → List Seen → Type 0
AnswersBy None seen number want what now = (what ≡ Refused NoFolder) × (now ≡ seen)
AnswersBy (Some s) seen number want what now = (known : Published) × IsAnswered s want what known × (now ≡ with_seen number known seen)

-- the same, of the folder of this number
abbrev pub Answers : List Seen → ℕ → Want → What → List Seen → Type 0
Answers seen number want what now = AnswersBy (seen_in seen number) seen number want what now
