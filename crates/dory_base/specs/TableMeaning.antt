-- What a table is, whatever keeps it: a shape, the number of a version, and that version's slots.
use Rattle.std.specs.Prelude.{ℕ, ◌≡◌, ◌+◌, ◌/◌, ◌≤◌, Bool, false, cond, List, [], length, map, slice_index, slice_index_or, Option, Some, None}
use Rattle.dory_base.specs.Dims.{Dims, IsDims}
use Rattle.dory_base.specs.declared.entry.Entry.{Entry}
use Rattle.dory_base.specs.declared.entry.Change.{Change}
use Rattle.dory_base.specs.declared.entry.Change.TheVariants.{Post, Remove}
use Rattle.dory_base.specs.History.{IsPostOf}
use Rattle.dory_base.specs.Packed.{word_bit}
use Rattle.dory_base.specs.Table.{Slots, step, table_of, live_of}
use Rattle.dory_base.specs.Sum.{tags_of, xor_all}

-- a folder's shape, how many updates it has had, and its slots
pub record Kept : Type 0 where
  pub shape : Dims
  pub number : ℕ
  pub slots : Slots

-- a post of this shape, whose row has a cell for each column, and a tag for each cell
abbrev pub IsPostedAs : Dims → Change → Type 0
IsPostedAs shape (Post posted row tags) = IsPostOf shape posted (length row) (length tags)
IsPostedAs shape Remove = ⊥

-- the slot is empty, or has such a post
abbrev pub IsSlotOf : Dims → Option Entry → Type 0
IsSlotOf shape None = Unit {0}
IsSlotOf shape (Some e) = IsPostedAs shape e.change

-- what is true of every table
pub record IsKept (t : Kept) : Type 0 where
  pub dims : IsDims t.shape
  pub few : length t.slots ≤ 4096
  pub posts : (slot : ℕ) → IsSlotOf t.shape (slice_index_or t.slots slot None)

-- the table of a folder that has had no update
abbrev pub empty_of : Dims → Kept
empty_of shape = record { shape = shape; number = 0; slots = [] }

-- the table after one more update
abbrev pub next_of : Kept → Entry → Kept
next_of t e = record { shape = t.shape; number = t.number + 1; slots = step t.slots e }

-- the table of a folder of this shape that has had these updates, in their order
abbrev pub kept_of : Dims → List Entry → Kept
kept_of shape entries = record { shape = shape; number = length entries; slots = table_of entries }

-- the table is the one that these updates give
abbrev pub StandsFor : Kept → List Entry → Type 0
StandsFor t entries = t ≡ kept_of t.shape entries

-- the XOR of this column's tags over the live slots
abbrev pub column_tag_of : Slots → ℕ → ℕ
column_tag_of slots column = xor_all (map (λ l. slice_index (tags_of l.entry.change) column) (live_of slots))

-- as many words as the bits take, which show these bits, and zero bits after the last
pub record Shows (words : List ℕ) (bits : List Bool) : Type 0 where
  pub exact : length words ≡ (length bits + 63) / 64
  pub each : (j : ℕ) → word_bit words j ≡ cond (slice_index_or bits j false) 1 0
