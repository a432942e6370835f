-- The positions of a word: the columns that it sets in a row, which is a Bloom filter.
use Rattle.std.specs.Prelude.{ℕ, ◌*◌, ◌%◌, ◌^◌, List, map, take, drop}
use Rattle.std.specs.Int.{w32, from_be_bytes}
use Rattle.std.specs.List.{range_with_len}
use Rattle.dory_base.specs.Dims.{Dims}
use Rattle.dory_hmac.specs.Hmac.{hmac}
use Rattle.dory_hmac.specs.declared.folder_keys.FolderKeys.{FolderKeys}

-- the number at the four bytes 4p to 4p+3 of a tag, the highest first, modulo 2 to the depth
unfoldable pub column_at : List ℕ → ℕ → ℕ → ℕ
column_at tag depth p = from_be_bytes w32 (take 4 (drop (4 * p) tag)) % 2 ^ depth

-- as many columns of a tag as a word has positions in this shape
abbrev pub columns_of : List ℕ → Dims → List ℕ
columns_of tag shape = map (column_at tag shape.depth) (range_with_len 0 shape.probes)

-- the positions of a word: the columns of its HMAC under the folder's word key
abbrev pub positions_of : FolderKeys → Dims → List ℕ → List ℕ
positions_of keys shape word = columns_of (hmac keys.word word) shape
