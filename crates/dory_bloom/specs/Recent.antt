-- The words that were set last: a slot for each remainder of a hash.
use Rattle.std.specs.Prelude.{ℕ, ◌≡◌, ◌*◌, ◌%◌, ◌^◌, ◌<◌, Bool, true, false, List, Option, Some, None, fold, bit_xor, slice_index_or}
use Rattle.dory_base.specs.Dims.{Dims}
use Rattle.dory_hmac.specs.Hmac.{hmac_of_block}
use Rattle.dory_bloom.specs.Positions.{columns_of}
use Rattle.dory_bloom.specs.PlainRow.{is_among}

-- one round of FNV-1a, 64 bits wide
abbrev pub fnv_round : ℕ → ℕ → ℕ
fnv_round hash byte = bit_xor hash byte * 0x100000001b3 % 2 ^ 64

-- the slot of a word: its FNV-1a hash modulo the number of slots
unfoldable pub slot_of : List ℕ → ℕ
slot_of word = fold fnv_round 0xcbf29ce484222325 word % 4096

-- each column of each kept word is set in the row
abbrev pub AreSet : List (Option (List ℕ)) → List Bool → List ℕ → Dims → Type 0
AreSet slots row block shape =
    (slot : ℕ) (word : List ℕ) (j : ℕ) → slice_index_or slots slot None ≡ Some word → j < 2 ^ shape.depth
    → is_among j (columns_of (hmac_of_block block word) shape) ≡ true → slice_index_or row j false ≡ true
