-- The bits of sums while they are made: 64 live slots at a time, in a word for each selector.
use Rattle.std.specs.Prelude.{ℕ, ◌≡◌, ◌+◌, ◌*◌, ◌<◌, Bool, false, cond, List, [], length, map, slice_index, slice_index_or}
use Rattle.std.specs.Int.{bit_at}
use Rattle.dory_base.specs.Sum.{parity, row_of}
use Rattle.dory_base.specs.Table.{Slots, live_of}

-- the parity of each live slot's selected cells
abbrev pub parities_of : Slots → List Bool → List Bool
parities_of slots selector = map (λ l. parity selector (row_of l.entry.change)) (live_of slots)

-- x is word n of these bits, with zero bits after the last
abbrev pub IsWordOf : List Bool → ℕ → ℕ → Type 0
IsWordOf bits n x = (i : ℕ) → i < 64 → bit_at x i ≡ cond (slice_index_or bits (64 * n + i) false) 1 0

-- for each selector, word n of its parities
pub record IsBlock (slots : Slots) (selectors : List (List Bool)) (n : ℕ) (words : List ℕ) : Type 0 where
  pub many : length words ≡ length selectors
  pub each : (s : ℕ) → s < length words → IsWordOf (parities_of slots (slice_index_or selectors s [])) n (slice_index words s)

-- all words of all selectors, block by block
abbrev pub AreBlocks : Slots → List (List Bool) → List (List ℕ) → Type 0
AreBlocks slots selectors blocks = (k : ℕ) → k < length blocks → IsBlock slots selectors k (slice_index_or blocks k [])
