-- The world as the code has it, what an event comes to there, and what is told of a run.
use Rattle.std.specs.Prelude.{ℕ, ◌≡◌, ◌≤◌, ◌+◌, List, length, Option, Some, None, slice_get}
use Rattle.std.specs.List.{AllByRecursion}
use Rattle.dory_base.specs.declared.ids.FolderId.{FolderId}
use Rattle.dory_base.specs.declared.ids.MemberId.{MemberId}
use Rattle.dory_verify.specs.declared.answer.Answer.{Answer}
use Rattle.dory_run.specs.declared.event.Event.{Event}
use Rattle.dory_run.specs.declared.event.Honest.{Honest}
use Rattle.dory_run.specs.declared.line.WorldLine.{WorldLine}
use Rattle.dory_run.specs.declared.setup.Setup.{Setup}
use Rattle.dory_run.specs.Happening.{Happened}
use Rattle.dory_run.specs.Law.{IsRight}
use Rattle.dory_run.specs.Run.{Moment, run_of, telling_of}
use Rattle.dory_domain.specs.Held.{Held}
use Rattle.dory_run.specs.World.{Station, Message, Asked, Replied, World}
use Rattle.dory_world.specs.Steps.{only}

-- what is shown of the code's world: the members, the folders of the two domains, and the messages
pub record Shown : Type 0 where
  pub members : List Station
  pub lead : List Held
  pub follow : List Held
  pub messages : List Message

-- the four as one
abbrev pub shown : List Station → List Held → List Held → List Message → Shown
shown members lead follow messages = record { members = members; lead = lead; follow = follow; messages = messages }

-- the code's world is this one, whose folder has this number
pub record IsWorld (folder : ℕ) (w : Shown) (v : World) : Type 0 where
  pub members : w.members ≡ v.members
  pub lead : w.lead ≡ only folder v.lead
  pub follow : w.follow ≡ only folder v.follow
  pub messages : w.messages ≡ v.messages

-- an event that isn't allowed changes nothing, and after another the world is the one that happens, with its line; at most
-- one message is put
pub record Comes (folder : ℕ) (t : Happened) (v : World) (told : WorldLine) (w : Shown) : Type 0 where
  pub line : told ≡ t.line
  pub world : IsWorld folder w t.world
  pub few : length t.world.messages ≤ length v.messages + 1

-- what an event comes to in the code
abbrev pub ComesTo : ℕ → Option Happened → World → Option WorldLine → Shown → Type 0
ComesTo folder None v None w = IsWorld folder w v
ComesTo folder None v (Some line) w = ⊥
ComesTo folder (Some t) v None w = ⊥
ComesTo folder (Some t) v (Some line) w = Comes folder t v line w

-- each ask is of the world's folder
abbrev pub IsInFolder : FolderId → Message → Type 0
IsInFolder folder (Asked side request) = request.folder ≡ folder
IsInFolder folder (Replied side m frame) = Unit {0}

-- so are all asks of a world
abbrev pub IsOfFolder : Setup → World → Type 0
IsOfFolder s v = AllByRecursion (IsInFolder s.folder) v.messages

-- what is told of a run, and the world at its end
pub record HasPlayed (h : Honest) (s : Setup) (events : List Event) (told : List WorldLine) (first_bad : Option ℕ) (w : Shown) : Type 0 where
  pub lines : told ≡ (telling_of h s events).lines
  pub bad : first_bad ≡ (telling_of h s events).bad
  pub world : IsWorld s.folder.0 w (telling_of h s events).world

-- A search ends accepted at the event of this place: it is right by what the run was at that moment.
pub record AcceptsAt (h : Honest) (s : Setup) (events : List Event) (place : ℕ) (m : MemberId) (answer : Answer) : Type 0 where
  pub moment : Moment
  pub now : slice_get (run_of h s events) place ≡ Some moment
  pub event : Event
  pub comes : slice_get events place ≡ Some event
  pub right : IsRight h s moment event m answer
