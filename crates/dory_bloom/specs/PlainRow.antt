-- The plain row of a document: the Bloom filter of its words.
use Rattle.std.specs.Prelude.{ℕ, ◌^◌, ◌==◌, Bool, List, map}
use Rattle.std.specs.List.{list_any, range_with_len}
use Rattle.dory_base.specs.Dims.{Dims}
use Rattle.dory_hmac.specs.declared.folder_keys.FolderKeys.{FolderKeys}
use Rattle.dory_bloom.specs.Positions.{positions_of}

-- whether the column is one of these positions
abbrev pub is_among : ℕ → List ℕ → Bool
is_among column positions = list_any (λ position. position == column) positions

-- for each column, whether it is a position of some listed word
abbrev pub plain_row_of : FolderKeys → Dims → List (List ℕ) → List Bool
plain_row_of keys shape words =
    map (λ column. list_any (λ word. is_among column (positions_of keys shape word)) words) (range_with_len 0 (2 ^ shape.depth))
