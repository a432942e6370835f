-- The manifest, from the marks of the slots.
use Rattle.std.specs.Prelude.{ℕ, ◌+◌, List, [], ◌∷◌, Option, Some, None}
use Rattle.dory_base.specs.declared.found.Place.{Place}
use Rattle.dory_chunks.specs.declared.marks.Mark.{Mark}

-- the live slots of a list whose first slot has this number
abbrev pub places_from : ℕ → List (Option Mark) → List Place
places_from n [] = []
places_from n (None ∷ marks) = places_from (n + 1) marks
places_from n (Some m ∷ marks) = record { slot = n; doc = m.doc; id = m.id } ∷ places_from (n + 1) marks

-- slot, document and id of each live slot
abbrev pub places_of : List (Option Mark) → List Place
places_of marks = places_from 0 marks
