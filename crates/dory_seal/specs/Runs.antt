-- Two runs of tags side by side.
use Rattle.std.specs.Prelude.{ℕ, ◌≡◌, ◌≢◌, ◌<◌, List, length, slice_index}

-- the first place at which the two differ
pub record IsFirstOther (tags right : List ℕ) (place : ℕ) : Type 0 where
  pub near : place < length right
  pub other : slice_index tags place ≢ slice_index right place
  pub before : (i : ℕ) → i < place → slice_index tags i ≡ slice_index right i
