-- Two domains' sums beside each other: one of an honest domain, and another that passed the check of the tags.
use Rattle.std.specs.Prelude.{ℕ, ◌≡◌, ◌<◌, Bool, false, List, length, map, bit_xor, slice_index, slice_index_or}
use Rattle.dory_base.specs.PointPair.{IsPointPair}
use Rattle.dory_base.specs.declared.found.Place.{Place}
use Rattle.dory_base.specs.declared.found.Sum.{Sum}
use Rattle.dory_base.specs.Table.{Slots, Live, live_of, place_of, manifest_of}
use Rattle.dory_base.specs.Sum.{row_of, tags_of, xor_all, sum_of}
use Rattle.dory_verify.specs.Tags.{xor_bits, line_tags}
use Rattle.dory_verify.specs.Forgery.{Probe}

-- a live slot whose row and tags have a cell for each column, each tag that of its cell
pub record IsTagged (tag : ℕ → Place → Bool → ℕ) (columns : ℕ) (l : Live) : Type 0 where
  pub cells : length (row_of l.entry.change) ≡ columns
  pub tags : length (tags_of l.entry.change) ≡ columns
  pub each : (j : ℕ) → j < columns → slice_index (tags_of l.entry.change) j ≡ tag j (place_of l) (slice_index_or (row_of l.entry.change) j false)

-- the cells of one column
abbrev pub cells_at : ℕ → List Live → List Bool
cells_at c ls = map (λ (l : Live). slice_index_or (row_of l.entry.change) c false) ls

-- the tags add up beside an honest sum: the XOR of the two is that of the cell tags of the XOR of the bits
abbrev pub AddUp : (ℕ → Place → Bool → ℕ) → Slots → ℕ → Sum → Sum → Type 0
AddUp tag slots c mine given = bit_xor mine.tag given.tag ≡ xor_all (line_tags (tag c) (manifest_of slots) (xor_bits mine.bits given.bits))

-- the bits of the two sums XOR to the cells of the probe's column
abbrev pub ShowsCells : Slots → ℕ → Sum → Sum → Type 0
ShowsCells slots c mine given = xor_bits mine.bits given.bits ≡ cells_at c (live_of slots)

-- a probe of the two: its column, and the shares of the honest domain and of the other
pub record Both : Type 0 where
  pub column : ℕ
  pub mine : List Bool
  pub other : List Bool

-- the probe as the other domain was sent it
abbrev pub other_of : Both → Probe
other_of b = record { column = b.column; shares = b.other }

-- the shares are a point pair for the column
pub record HasPointPair (m : ℕ) (b : Both) : Type 0 where
  pub within : b.column < m
  pub pair : IsPointPair m b.column b.mine b.other

-- the other's sum counts the lines, and the tags add up
pub record IsChecked (tag : ℕ → Place → Bool → ℕ) (slots : Slots) (b : Both) (given : Sum) : Type 0 where
  pub count : length given.bits ≡ length (manifest_of slots)
  pub adds : AddUp tag slots b.column (sum_of slots b.mine) given

-- the bits show the cells of the probe's column
abbrev pub IsShown : Slots → Both → Sum → Type 0
IsShown slots b given = ShowsCells slots b.column (sum_of slots b.mine) given
