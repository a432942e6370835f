-- A published history of a folder: its operations, in the order in which its shelf published them.
use Rattle.std.specs.Prelude.{ℕ, ◌≡◌, ◌<◌, ◌≤◌, ◌^◌, List, [], ◌∷◌, ◌++◌, length, Some, Ok}
use mathlib.Core.List.{IsPrefix}
use Rattle.logbook.specs.Pages.{Book}
use Rattle.dory_base.specs.Dims.{Dims}
use Rattle.dory_base.specs.History.{IsWhole}
use Rattle.dory_base.specs.Log.{look_stage, staged_as}
use Rattle.dory_base.specs.Step.{State, IsSerial, empty_state, log_of, after, state_of}
use Rattle.dory_base.specs.declared.entry.Entry.{Entry}
use Rattle.dory_base.specs.declared.event.Event.{Event}
use Rattle.dory_base.specs.declared.event.Event.TheVariants.{Staged, Appended}
use Rattle.dory_base.specs.declared.ids.Side.TheVariants.{Lead}
use Rattle.dory_base.specs.declared.plan.StagePlan.TheVariants.{New}

-- which shelf it is: the book of its history, its folder's shape, and how many versions it retains
pub record Shelf : Type 0 where
  pub book : Book
  pub shape : Dims
  pub retained : ℕ

-- the operations of a shelf, from its first one on
pub record Published : Type 0 where
  pub shelf : Shelf
  pub events : List Event

-- the published history of these parts
abbrev pub published : Book → Dims → ℕ → List Event → Published
published book shape retained events = record { shelf = record { book = book; shape = shape; retained = retained }; events = events }

-- the folder that these operations make; which role it has makes no difference to them
abbrev pub folder_of : Published → State
folder_of h = state_of Lead h.shelf.shape h.shelf.retained h.events

-- the updates that were appended
abbrev pub history_of : Published → List Entry
history_of h = (folder_of h).history

-- the operation is one that a folder makes: a whole update in range that is new is staged, or a staged one is appended where there is room
abbrev pub Makes : State → Event → Type 0
Makes s (Staged e) = (look_stage (log_of s) e ≡ Ok New) × IsSerial e.id.serial × (e.doc.0 < 2 ^ 32) × IsWhole e.change
Makes s (Appended id) = ((e : Entry) × (staged_as s.staged id ≡ Some e)) × (length s.history < 1048576)

-- each operation is one that the folder makes after those before it
abbrev pub LawfulFrom : State → List Event → Type 0
LawfulFrom s [] = Unit {0}
LawfulFrom s (e ∷ es) = Makes s e × LawfulFrom (after s e) es

-- so it is from the empty folder on
abbrev pub IsLawful : Published → Type 0
IsLawful h = LawfulFrom (empty_state Lead h.shelf.shape h.shelf.retained) h.events

-- the operation may come next
abbrev pub MayFollow : Published → Event → Type 0
MayFollow h e = Makes (folder_of h) e

-- one operation more
abbrev pub with_event : Published → Event → Published
with_event h e = record { shelf = h.shelf; events = h.events ++ e ∷ [] }

-- the later history is of the same shelf, and begins with the earlier one
abbrev pub Grew : Published → Published → Type 0
Grew earlier later = (later.shelf ≡ earlier.shelf) × IsPrefix earlier.events later.events

-- so many operations and updates of a lawful history, of which at least one version is retained
pub record IsFront (h : Published) (operations updates : ℕ) : Type 0 where
  pub operations_are : operations ≡ length h.events
  pub updates_are : updates ≡ length (history_of h)
  pub lawful : IsLawful h
  pub some : 1 ≤ h.shelf.retained
