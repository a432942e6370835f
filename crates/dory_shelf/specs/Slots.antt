-- What a change does to a copy: version n stands at place n mod W.
use Rattle.std.specs.Prelude.{◌%◌, List, length, slice_set, Option, Some, None}
use Rattle.dory_shelf.specs.Published.{Published}
use Rattle.dory_shelf.specs.ShelfRule.{Shown}
use Rattle.dory_shelf.specs.declared.store.Stored.{Stored}
use Rattle.dory_shelf.specs.declared.store.Change.{Change}

-- the slots with this version at its place
abbrev pub slots_with : List (Option Published) → Stored → List (Option Published)
slots_with slots k = slice_set slots (k.number % length slots) (Some k.front)

-- the slots after a change, which may keep no version
abbrev pub slots_after : List (Option Published) → Option Stored → List (Option Published)
slots_after slots None = slots
slots_after slots (Some k) = slots_with slots k

-- what is shown after a change
abbrev pub shown_after : Shown → Change → Shown
shown_after x c = record { known = c.front; slots = slots_after x.slots c.stored }
