-- The one slot that an update changes.
use Rattle.std.specs.Prelude.{ℕ, ◌≡◌, ◌<◌, ◌≤◌, nat_lt, if◌then◌else◌, true, [], ◌∷◌, ◌++◌, length, Option, Some, None, position, is_none, slice_set, slice_index_or}
use Rattle.dory_base.specs.declared.ids.DocId.{DocId}
use Rattle.dory_base.specs.declared.entry.Entry.{Entry}
use Rattle.dory_base.specs.declared.entry.Change.{Change}
use Rattle.dory_base.specs.declared.entry.Change.TheVariants.{Post, Remove}
use Rattle.dory_base.specs.Table.{Slots, has_doc, step}

-- a post goes into its document's slot, else into the lowest empty one, else behind the last while there are fewer than 4,096
abbrev pub place_for : Option ℕ → Option ℕ → ℕ → Option ℕ
place_for (Some own) empty count = Some own
place_for None (Some empty) count = Some empty
place_for None None count = if nat_lt count 4096 then Some count else None

-- the slot that a post or a removal of this document changes, if it changes one
abbrev pub target_in : Slots → DocId → Change → Option ℕ
target_in slots doc (Post shape row tags) = place_for (position (has_doc doc) slots) (position is_none slots) (length slots)
target_in slots doc Remove = position (has_doc doc) slots

-- the slot that the update changes, if it changes one
abbrev pub target_of : Slots → Entry → Option ℕ
target_of slots e = target_in slots e.doc e.change

-- a post leaves itself in that slot, and a removal nothing
abbrev pub left_in : Entry → Change → Option Entry
left_in e (Post shape row tags) = Some e
left_in e Remove = None

-- what the update leaves in that slot
abbrev pub left_by : Entry → Option Entry
left_by e = left_in e e.change

-- the slots with something else in one of them, or behind the last
abbrev pub written : Slots → ℕ → Option Entry → Slots
written slots n slot = if nat_lt n (length slots) then slice_set slots n slot else slots ++ slot ∷ []

-- no document has two slots
abbrev pub AreApart : Slots → Type 0
AreApart slots = (i j : ℕ) (doc : DocId) → has_doc doc (slice_index_or slots i None) ≡ true → has_doc doc (slice_index_or slots j None) ≡ true → i ≡ j

-- what is in this slot isn't of a document that another slot has
abbrev pub IsAlone : Slots → ℕ → Option Entry → Type 0
IsAlone slots n None = Unit {0}
IsAlone slots n (Some e) = (k : ℕ) → has_doc e.doc (slice_index_or slots k None) ≡ true → k ≡ n

-- the update changes this slot alone: one that there is, or the next behind the last
pub record IsTarget (slots : Slots) (e : Entry) (n : ℕ) : Type 0 where
  pub within : n ≤ length slots
  pub few : n < 4096
  pub changes : step slots e ≡ written slots n (left_by e)
  pub alone : IsAlone slots n (left_by e)
