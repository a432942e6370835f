-- What a seat has seen of each folder of its domain.
use Rattle.std.specs.Prelude.{ℕ, ◌≡◌, ◌==◌, ◌≤◌, Bool, cond, List, [], ◌∷◌, map, Option, Some, None, slice_get}
use Rattle.std.specs.List.{find}
use Rattle.dory_base.specs.Dims.{IsDims}
use Rattle.dory_base.specs.Step.{State}
use Rattle.dory_base.specs.declared.ids.Side.{Side}
use Rattle.dory_shelf.specs.Published.{Shelf, Published, folder_of, history_of}
use Rattle.dory_domain.specs.Held.{Held}

-- a folder's number, its domain's role, and the published history that was seen of it
pub record Seen : Type 0 where
  pub number : ℕ
  pub role : Side
  pub known : Published

-- the folder that the operations of a published history make, in this role
abbrev pub folder_as : Side → Published → State
folder_as role h =
    record { role = role; shape = h.shelf.shape; retained = h.shelf.retained; history = history_of h; staged = (folder_of h).staged }

-- the folder as it was seen
abbrev pub held_of : Seen → Held
held_of s = record { number = s.number; state = folder_as s.role s.known }

-- ---- which shelf it is

-- a folder's number, its domain's role, and its shelf: what no call changes
pub record Named : Type 0 where
  pub number : ℕ
  pub role : Side
  pub shelf : Shelf

-- the name of a folder that was seen
abbrev pub named_of : Seen → Named
named_of s = record { number = s.number; role = s.role; shelf = s.known.shelf }

-- the names of the folders of a seat
abbrev pub names_of : List Seen → List Named
names_of seen = map named_of seen

-- the folder has the name of this place
abbrev pub IsAt : List Named → ℕ → Seen → Type 0
IsAt names place s = slice_get names place ≡ Some (named_of s)

-- a folder's shape and its number of retained versions are in range
pub record IsKept (h : Published) : Type 0 where
  pub dims : IsDims h.shelf.shape
  pub some : 1 ≤ h.shelf.retained
  pub few : h.shelf.retained ≤ 256

-- ---- the folders of a seat, by their numbers

-- this is the folder of that number
abbrev pub is_folder : ℕ → Seen → Bool
is_folder number s = s.number == number

-- the first folder of this number
abbrev pub seen_in : List Seen → ℕ → Option Seen
seen_in seen number = find (is_folder number) seen

-- the folder, of which this history was seen
abbrev pub knowing : Published → Seen → Seen
knowing known s = record { number = s.number; role = s.role; known = known }

-- the folders, where this history was seen of the first of this number
abbrev pub with_seen : ℕ → Published → List Seen → List Seen
with_seen number known [] = []
with_seen number known (s ∷ seen) = cond (is_folder number s) (knowing known s ∷ seen) (s ∷ with_seen number known seen)
