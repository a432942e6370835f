-- Facts of plain rows, for the proofs of callers.
use Rattle.std.proofs.Common.{◌≡◌, ℕ, ◌<◌, ◌^◌, false, List, length, get_or}
use Rattle.std.specs.List.{list_any}
use Rattle.std.proofs.Common.{arith}
use Rattle.std.proofs.lemmas.List.FromFn.{length-map-range_with_len, get_or-map-range_with_len}
use Rattle.dory_base.specs.Dims.{Dims}
use Rattle.dory_hmac.specs.declared.folder_keys.FolderKeys.{FolderKeys}
use Rattle.dory_bloom.specs.Positions.{positions_of}
use Rattle.dory_bloom.specs.PlainRow.{is_among, plain_row_of}

-- a row has a bit for each column
pub length-plain_row_of : (keys : FolderKeys) (shape : Dims) (words : List (List ℕ)) → length (plain_row_of keys shape words) ≡ 2 ^ shape.depth
length-plain_row_of keys shape words =
    length-map-range_with_len (λ column. list_any (λ word. is_among column (positions_of keys shape word)) words) 0 (2 ^ shape.depth)

-- a column's bit
pub plain_row_of-bit : (keys : FolderKeys) (shape : Dims) (words : List (List ℕ)) (j : ℕ) → j < 2 ^ shape.depth
    → get_or (plain_row_of keys shape words) j false ≡ list_any (λ word. is_among j (positions_of keys shape word)) words
plain_row_of-bit keys shape words j low =
    get_or-map-range_with_len (λ column. list_any (λ word. is_among column (positions_of keys shape word)) words) 0 (2 ^ shape.depth) j j false low (omega arith)
