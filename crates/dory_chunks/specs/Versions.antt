-- What is true of every version.
use Rattle.std.specs.Prelude.{ℕ, ◌≡◌, ◌+◌, ◌*◌, ◌/◌, ◌^◌, ◌<◌, ◌≤◌, List, length, slice_index, slice_index_or, None}
use Rattle.dory_base.specs.Dims.{Dims, IsDims}
use Rattle.dory_base.specs.Table.{Slots}
use Rattle.dory_base.specs.TableMeaning.{IsSlotOf, column_tag_of}
use Rattle.dory_chunks.specs.Parts.{Part, IsPart, part_at}
use Rattle.dory_chunks.specs.Target.{AreApart}

-- how many words a row of this shape takes
abbrev pub width_of : Dims → ℕ
width_of shape = (2 ^ shape.depth + 63) / 64

-- the XOR of the tags of each column over the live slots
pub record AreTags (shape : Dims) (slots : Slots) (tags : List ℕ) : Type 0 where
  pub columns : length tags ≡ 2 ^ shape.depth
  pub tagged : (column : ℕ) → column < 2 ^ shape.depth → slice_index tags column ≡ column_tag_of slots column

-- slots of this shape, each document in one of them, beside their columns' tags
pub record AreKept (shape : Dims) (slots : Slots) (tags : List ℕ) : Type 0 where
  pub dims : IsDims shape
  pub few : length slots ≤ 4096
  pub posts : (n : ℕ) → IsSlotOf shape (slice_index_or slots n None)
  pub apart : AreApart slots
  pub sums : AreTags shape slots tags

-- the slots lie in these chunks
pub record AreParts (width count : ℕ) (parts : List Part) : Type 0 where
  pub reached : count ≤ 64 * length parts
  pub each : (n : ℕ) → n < length parts → IsPart width (part_at parts n)
