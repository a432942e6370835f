-- The rule of a shelf's book, and what its steps tell.
use Rattle.std.specs.Prelude.{ℕ, ◌≡◌, ◌==◌, true, List, [], ◌∷◌, ◌++◌, length, MatchBool}
use Rattle.logbook.specs.Pages.{Cell, Step, View}
use Rattle.dory_base.specs.declared.event.Event.{Event}
use Rattle.dory_shelf.specs.Published.{Shelf, IsLawful}

-- the first word is the number of operations, which are lawful
pub record IsKept (cells : List Cell) (events : List Event) : Type 0 where
  pub words : cells ≡ (length events, true) ∷ (0, true) ∷ []
  pub lawful : (shelf : Shelf) × IsLawful (record { shelf = shelf; events = events })

-- where the number was the one that had been seen, the operation was added to all that had been seen
abbrev pub Adds : Step Event → View Event ℕ → ℕ → View Event ℕ → Type 0
Adds s v found w = MatchBool (found == s.old) (w.0 ≡ v.0 ++ s.ask ∷ []) (Unit {0})
