-- Two selectors that together select one column, though neither shows which.
use Rattle.std.specs.Prelude.{ℕ, ◌≡◌, ◌<◌, ◌==◌, Bool, false, List, length, slice_index_or}
use Rattle.dory_base.specs.Xor.{xor}

-- lists of as many bits as there are columns, which differ exactly at this column
pub record IsPointPair (columns column : ℕ) (lead follow : List Bool) : Type 0 where
  pub lead_has : length lead ≡ columns
  pub follow_has : length follow ≡ columns
  pub differ : (x : ℕ) → x < columns → xor (slice_index_or lead x false) (slice_index_or follow x false) ≡ (x == column)
