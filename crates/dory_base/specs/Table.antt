-- Which documents a folder has, and in which slots they lie.
use Rattle.std.specs.Prelude.{ℕ, ◌+◌, ◌==◌, Bool, false, nat_lt, if◌then◌else◌, List, [], ◌∷◌, ◌++◌, length, map, Option, Some, None, position, is_none, slice_set}
use Rattle.std.specs.List.{fold}
use Rattle.dory_base.specs.declared.ids.DocId.{DocId}
use Rattle.dory_base.specs.declared.entry.Entry.{Entry}
use Rattle.dory_base.specs.declared.entry.Change.{Change}
use Rattle.dory_base.specs.declared.entry.Change.TheVariants.{Post, Remove}
use Rattle.dory_base.specs.declared.found.Place.{Place}

-- each slot is empty or has a post
abbrev pub Slots : Type 0
Slots = List (Option Entry)

-- the slot has a post of this document
abbrev pub has_doc : DocId → Option Entry → Bool
has_doc doc None = false
has_doc doc (Some e) = e.doc.0 == doc.0

-- a post goes into its document's slot, else into the lowest empty one, else into a new one while there are fewer than 4,096
abbrev pub placed : Entry → Slots → Option ℕ → Option ℕ → Slots
placed e slots (Some own) empty = slice_set slots own (Some e)
placed e slots None (Some empty) = slice_set slots empty (Some e)
placed e slots None None = if nat_lt (length slots) 4096 then slots ++ Some e ∷ [] else slots

-- a removal empties its document's slot, and changes nothing where there is none
abbrev pub emptied : DocId → Option Entry → Option Entry
emptied doc slot = if has_doc doc slot then None else slot

-- the slots after a change
abbrev pub changed : Entry → Slots → Change → Slots
changed e slots (Post shape row tags) = placed e slots (position (has_doc e.doc) slots) (position is_none slots)
changed e slots Remove = map (emptied e.doc) slots

-- the slots after one more update
abbrev pub step : Slots → Entry → Slots
step slots e = changed e slots e.change

-- the slots after these updates
abbrev pub table_of : List Entry → Slots
table_of history = fold step [] history

-- a slot that isn't empty: its number and what it has
pub record Live : Type 0 where
  pub slot : ℕ
  pub entry : Entry

-- the live slots of a list whose first slot has this number
abbrev pub live_from : ℕ → Slots → List Live
live_from n [] = []
live_from n (None ∷ slots) = live_from (n + 1) slots
live_from n (Some e ∷ slots) = record { slot = n; entry = e } ∷ live_from (n + 1) slots

-- the live slots in rising order
abbrev pub live_of : Slots → List Live
live_of slots = live_from 0 slots

-- a live slot's line in the manifest
abbrev pub place_of : Live → Place
place_of l = record { slot = l.slot; doc = l.entry.doc; id = l.entry.id }

-- slot, document and id of each live slot
abbrev pub manifest_of : Slots → List Place
manifest_of slots = map place_of (live_of slots)
