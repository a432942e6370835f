-- What a sealed entry is, and how it carries its plain row.
use Rattle.std.specs.Prelude.{ℕ, ◌≡◌, ◌≢◌, ◌<◌, ◌/◌, ◌%◌, ◌^◌, ◌==◌, Bool, false, List, map, take, length, slice_index, slice_index_or}
use Rattle.std.specs.Int.{bit_at}
use Rattle.std.specs.List.{range_with_len}
use Rattle.dory_base.specs.Dims.{Dims}
use Rattle.dory_base.specs.Sum.{row_of}
use Rattle.dory_base.specs.TagBytes.{tag_number}
use Rattle.dory_base.specs.Xor.{xor}
use Rattle.dory_base.specs.declared.entry.Change.{Change}
use Rattle.dory_base.specs.declared.entry.Change.TheVariants.{Post, Remove}
use Rattle.dory_base.specs.declared.entry.Entry.{Entry}
use Rattle.dory_base.specs.declared.ids.DocId.{DocId}
use Rattle.dory_base.specs.declared.ids.UpdateId.{UpdateId}
use Rattle.dory_hmac.specs.Hmac.{hmac}
use Rattle.dory_hmac.specs.declared.folder_keys.FolderKeys.{FolderKeys}
use Rattle.dory_seal.specs.Epoch.{epoch_of, mask_key_of, tag_key_of}
use Rattle.dory_seal.specs.Message.{mask_message, cell_message}

-- the mask bits of 256 columns, in 32 bytes: an HMAC under the mask key of the update's epoch
unfoldable pub mask_block_of : FolderKeys → DocId → UpdateId → ℕ → List ℕ
mask_block_of keys doc id block = hmac (mask_key_of keys (epoch_of id)) (mask_message doc id block)

-- bit r of a block: bit r mod 8, the lowest first, of byte r div 8
abbrev pub block_bit : List ℕ → ℕ → Bool
block_bit bytes r = bit_at (slice_index bytes (r / 8)) (r % 8) == 1

-- the mask bit of a column of an update of a document
unfoldable pub mask_bit_of : FolderKeys → DocId → UpdateId → ℕ → Bool
mask_bit_of keys doc id column = block_bit (mask_block_of keys doc id (column / 256)) (column % 256)

-- the tag of a cell: the first 16 bytes of an HMAC under the tag key of the update's epoch
unfoldable pub cell_tag_of : FolderKeys → DocId → UpdateId → ℕ → Bool → ℕ
cell_tag_of keys doc id column cell = tag_number (take 16 (hmac (tag_key_of keys (epoch_of id)) (cell_message doc id column cell)))

-- each cell XOR the mask bit of its column, which makes sealed cells of plain ones and plain ones of sealed ones
abbrev pub masked : FolderKeys → DocId → UpdateId → List Bool → List Bool
masked keys doc id row = map (λ j. xor (slice_index_or row j false) (mask_bit_of keys doc id j)) (range_with_len 0 (length row))

-- the plain row of an entry
abbrev pub plain_of : FolderKeys → Entry → List Bool
plain_of keys e = masked keys e.doc e.id (row_of e.change)

-- the tag of a column is the cell tag of its cell
abbrev pub HasTag : FolderKeys → DocId → UpdateId → List Bool → List ℕ → ℕ → Type 0
HasTag keys doc id row tags column = slice_index tags column ≡ cell_tag_of keys doc id column (slice_index_or row column false)

-- a cell and a tag for each column, and each tag that of its cell
pub record IsSealedRow (keys : FolderKeys) (doc : DocId) (id : UpdateId) (columns : ℕ) (row : List Bool) (tags : List ℕ) : Type 0 where
  pub cells : length row ≡ columns
  pub tagged : length tags ≡ columns
  pub each : (j : ℕ) → j < columns → HasTag keys doc id row tags j

-- a post of a sealed row, or a removal
abbrev pub IsSealedChange : FolderKeys → DocId → UpdateId → Change → Type 0
IsSealedChange keys doc id (Post shape row tags) = IsSealedRow keys doc id (2 ^ shape.depth) row tags
IsSealedChange keys doc id Remove = Unit {0}

-- an entry that is sealed under these keys
abbrev pub IsSealed : FolderKeys → Entry → Type 0
IsSealed keys e = IsSealedChange keys e.doc e.id e.change

-- the change is a post of this shape
abbrev pub IsPostOfShape : Dims → Change → Type 0
IsPostOfShape shape change = (row : List Bool) × (tags : List ℕ) × (change ≡ Post shape row tags)

-- a sealed entry with this id and this document, which posts a row of this shape whose plain row is this
pub record IsSealingOf (keys : FolderKeys) (shape : Dims) (id : UpdateId) (doc : DocId) (row : List Bool) (e : Entry) : Type 0 where
  pub id_is : e.id ≡ id
  pub doc_is : e.doc ≡ doc
  pub post : IsPostOfShape shape e.change
  pub sealed : IsSealed keys e
  pub plain : plain_of keys e ≡ row

-- the column is the first whose tag isn't the cell tag of its cell
pub record IsFirstBad (keys : FolderKeys) (doc : DocId) (id : UpdateId) (row : List Bool) (tags : List ℕ) (column : ℕ) : Type 0 where
  pub near : column < length row
  pub bad : slice_index tags column ≢ cell_tag_of keys doc id column (slice_index_or row column false)
  pub before : (j : ℕ) → j < column → HasTag keys doc id row tags j

-- the same of a change; a removal has no such column
abbrev pub IsFirstBadOf : FolderKeys → DocId → UpdateId → Change → ℕ → Type 0
IsFirstBadOf keys doc id (Post shape row tags) column = IsFirstBad keys doc id row tags column
IsFirstBadOf keys doc id Remove column = ⊥
