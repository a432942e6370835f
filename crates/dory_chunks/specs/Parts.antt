-- Slots in chunks of 64.
use Rattle.std.specs.Prelude.{ℕ, ◌≡◌, ◌+◌, ◌*◌, ◌/◌, ◌%◌, ◌<◌, ◌≤◌, nat_lt, if◌then◌else◌, List, [], ◌∷◌, ◌++◌, length, map, replicate, slice_index_or, slice_set, slice_range, Option, Some, None}
use Rattle.std.specs.List.{range_with_len}
use Rattle.dory_base.specs.declared.entry.Entry.{Entry}
use Rattle.dory_base.specs.Sum.{row_of}
use Rattle.dory_base.specs.Table.{Slots}
use Rattle.dory_base.specs.TableMeaning.{Shows}

-- a chunk: how many words each of its rows takes, and its slots
pub record Part : Type 0 where
  pub width : ℕ
  pub slots : Slots

-- a chunk of 64 slots, with rows of this many words
pub record IsPart (width : ℕ) (part : Part) : Type 0 where
  pub full : length part.slots ≡ 64
  pub width_is : part.width ≡ width

-- a chunk of empty slots
abbrev pub empty_part : ℕ → Part
empty_part width = record { width = width; slots = replicate 64 None }

-- the chunk with something else in a slot
abbrev pub put_in : Part → ℕ → Option Entry → Part
put_in part place slot = record { width = part.width; slots = slice_set part.slots place slot }

-- the chunk of this number
abbrev pub part_at : List Part → ℕ → Part
part_at parts n = slice_index_or parts n (record { width = 0; slots = [] })

-- the slot of this number
abbrev pub slot_at : List Part → ℕ → Option Entry
slot_at parts n = slice_index_or (part_at parts (n / 64)).slots (n % 64) None

-- the first slots, in order
abbrev pub slots_in : ℕ → List Part → Slots
slots_in count parts = map (slot_at parts) (range_with_len 0 count)

-- the chunks with something else in the slot of this number, for which a chunk is made where there is none
abbrev pub parts_with : ℕ → List Part → ℕ → Option Entry → List Part
parts_with width parts n slot =
    if nat_lt (n / 64) (length parts)
    then slice_set parts (n / 64) (put_in (part_at parts (n / 64)) (n % 64) slot)
    else parts ++ put_in (empty_part width) (n % 64) slot ∷ []

-- the words show the row of the slot, if it has one
abbrev pub ShowsSlot : List ℕ → Option Entry → Type 0
ShowsSlot words None = Unit {0}
ShowsSlot words (Some e) = Shows words (row_of e.change)

-- the words of a slot's row, in the block of a chunk's rows
abbrev pub row_in : ℕ → List ℕ → ℕ → List ℕ
row_in width rows place = slice_range rows (place * width) (place * width + width)

-- 64 slots, and a block with the row of each
pub record IsChunk (width : ℕ) (slots : Slots) (rows : List ℕ) : Type 0 where
  pub full : length slots ≡ 64
  pub narrow : width ≤ 32
  pub block : length rows ≡ 64 * width
  pub shown : (place : ℕ) → place < 64 → ShowsSlot (row_in width rows place) (slice_index_or slots place None)

-- the slot is empty, or its row takes this many words
abbrev pub HasWidth : ℕ → Option Entry → Type 0
HasWidth width None = Unit {0}
HasWidth width (Some e) = (length (row_of e.change) + 63) / 64 ≡ width
