-- The rule of a shelf: the copy that it shows, and what each reader knows of it.
use Rattle.std.specs.Prelude.{ℕ, ◌≡◌, ◌-◌, List, ◌∷◌, Option, Some, None, length, replicate, slice_get}
use mathlib.Core.Option.{some}
use lib.ListN.{get_elem?}
use Rattle.dory_shelf.specs.Published.{Published, IsLawful, Grew}

-- what a copy shows: a history, and for each slot the one that its version stands for
pub record Shown : Type 0 where
  pub known : Published
  pub slots : List (Option Published)

-- a lawful history, with a slot for each version that is retained, each of this shelf
pub record IsShelf (x : Shown) : Type 0 where
  pub lawful : IsLawful x.known
  pub retained : length x.slots ≡ x.known.shelf.retained
  pub named : (slot : ℕ) (k : Published) → slice_get x.slots slot ≡ Some (Some k) → k.shelf ≡ x.known.shelf

-- what a copy shows first: version 0 alone
abbrev pub first_shown : Published → Shown
first_shown k = record { known = k; slots = Some k ∷ replicate (k.shelf.retained - 1) None }

-- what is shown begins with what is known
abbrev pub Agrees : Shown → Option Shown → Type 0
Agrees x None = Unit {0}
Agrees x (Some t) = Grew t.known x.known

-- what is shown begins with what each reader has seen
abbrev pub Keeps : Shown → List (Option Shown) → Type 0
Keeps x views = IsShelf x × ((seat : ℕ) (v : Option Shown) → get_elem? views seat ≡ some v → Agrees x v)

-- what was shown began with what was known, and what is shown then is known
abbrev pub Sees : Option Shown → Shown → Shown → Option Shown → Type 0
Sees v x y w = Agrees x v × IsShelf y × (w ≡ Some y)

-- something is known, with which this history begins
abbrev pub Seats : Option Shown → Published → Type 0
Seats v k = (t : Shown) × (v ≡ Some t) × Grew t.known k

-- what a writer has published, and what is pending
pub record Writes : Type 0 where
  pub known : Published
  pub pending : Option Published
