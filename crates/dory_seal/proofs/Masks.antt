-- Mask bits, and rows under their masks.
use Rattle.std.proofs.Common.{◌≡◌, ◌≢◌, ℕ, ◌+◌, ◌*◌, ◌/◌, ◌%◌, ◌<◌, ◌≤◌, Bool, true, false, inl, inr, List, length, get_or, set, refl, ap, sym, ◌∙◌, arith}
use Rattle.std.proofs.lemmas.Bool.{cases_eq, cases_lt}
use Rattle.std.proofs.lemmas.List.{get_or-set_same, get_or-set_other}
use Rattle.std.proofs.lemmas.List.FromFn.{length-map-range_with_len, get_or-map-range_with_len, fill_by_all}
use Rattle.dory_base.specs.Xor.{xor}
use Rattle.dory_base.specs.declared.ids.DocId.{DocId}
use Rattle.dory_base.specs.declared.ids.UpdateId.{UpdateId}
use Rattle.dory_hmac.specs.declared.folder_keys.FolderKeys.{FolderKeys}
use Rattle.dory_hmac.specs.Hmac.{block_key, hmac_of_block}
use Rattle.dory_seal.specs.Epoch.{epoch_of, mask_key_of}
use Rattle.dory_seal.specs.Message.{mask_message}
use Rattle.dory_seal.specs.Seal.{block_bit, mask_bit_of, mask_block_of, masked}

-- a column's mask bit stands in its block
pub block_bit_is : (keys : FolderKeys) (doc : DocId) (id : UpdateId) (block column : ℕ) (bytes : List ℕ) → bytes ≡ mask_block_of keys doc id block → column / 256 ≡ block
    → block_bit bytes (column % 256) ≡ mask_bit_of keys doc id column
unfolding mask_bit_of
block_bit_is keys doc id block column bytes is in_block =
    ap (λ (all : List ℕ). block_bit all (column % 256)) (is ∙ ap (mask_block_of keys doc id) (sym in_block))

-- the HMAC of a block's message under that block of the key is the mask block
pub mask_block_is : (keys : FolderKeys) (doc : DocId) (id : UpdateId) (epoch : ℕ) (key : List ℕ) → epoch_of id ≡ epoch → key ≡ block_key (mask_key_of keys epoch)
    → (block : ℕ) → hmac_of_block key (mask_message doc id block) ≡ mask_block_of keys doc id block
unfolding mask_block_of
mask_block_is keys doc id epoch key within is block =
    ap (λ (k : List ℕ). hmac_of_block k (mask_message doc id block)) (is ∙ ap (λ (e : ℕ). block_key (mask_key_of keys e)) (sym within))

-- what stands before a place stays when the place is written
pub before_kept : (cells old : List Bool) (from column : ℕ) (v : Bool) → from ≤ column → ((j : ℕ) → j < from → get_or cells j false ≡ get_or old j false)
    → (j : ℕ) → j < from → get_or (set cells column v) j false ≡ get_or old j false
before_kept cells old from column v after kept j low =
    let other : j ≢ column = omega arith in
    get_or-set_other cells column j v false other ∙ kept j low

-- one more cell of a block is written
pub block_more : (f : ℕ → Bool) (cells : List Bool) (from column next : ℕ) (v : Bool) → column < length cells → next ≡ column + 1 → v ≡ f column
    → ((j : ℕ) → from ≤ j → j < column → get_or cells j false ≡ f j) → (j : ℕ) → from ≤ j → j < next → get_or (set cells column v) j false ≡ f j
block_more f cells from column next v near on is written j above below =
    elim (cases_eq j column) [
      | inl e ↦ ap (λ (k : ℕ). get_or (set cells column v) k false) e ∙ get_or-set_same cells column v false near ∙ is ∙ ap f (sym e)
      | inr ne ↦ get_or-set_other cells column j v false ne ∙ written j above (omega arith)
    ]

-- one more block of a row is under its mask
pub blocks_more : (keys : FolderKeys) (doc : DocId) (id : UpdateId) (row old new : List Bool) (block : ℕ) (bytes : List ℕ)
    → ((j : ℕ) → j / 256 ≡ block → block_bit bytes (j % 256) ≡ mask_bit_of keys doc id j)
    → ((j : ℕ) → j < 256 * block → get_or old j false ≡ xor (get_or row j false) (mask_bit_of keys doc id j))
    → ((j : ℕ) → j < 256 * block → get_or new j false ≡ get_or old j false)
    → ((j : ℕ) → 256 * block ≤ j → j < 256 * block + 256 → get_or new j false ≡ xor (get_or row j false) (block_bit bytes (j % 256)))
    → (j : ℕ) → j < 256 * (block + 1) → get_or new j false ≡ xor (get_or row j false) (mask_bit_of keys doc id j)
blocks_more keys doc id row old new block bytes bits so_far kept written j low =
    elim (cases_lt j (256 * block)) [
      | inl before ↦ kept j before ∙ so_far j before
      | inr after ↦
          let here : j / 256 ≡ block = omega arith in
          written j after (omega arith) ∙ ap (xor (get_or row j false)) (bits j here)
    ]

-- a row each of whose cells is under its mask bit is the row under its mask
pub masked_by_all : (keys : FolderKeys) (doc : DocId) (id : UpdateId) (row cells : List Bool) → length cells ≡ length row
    → ((j : ℕ) → j < length row → get_or cells j false ≡ xor (get_or row j false) (mask_bit_of keys doc id j)) → cells ≡ masked keys doc id row
masked_by_all keys doc id row cells same each = fill_by_all (λ j. xor (get_or row j false) (mask_bit_of keys doc id j)) cells (length row) false same each

pub length-masked : (keys : FolderKeys) (doc : DocId) (id : UpdateId) (row : List Bool) → length (masked keys doc id row) ≡ length row
length-masked keys doc id row = length-map-range_with_len (λ j. xor (get_or row j false) (mask_bit_of keys doc id j)) 0 (length row)

xor_twice : (a b : Bool) → a ≡ xor (xor a b) b
xor_twice true true = refl
xor_twice true false = refl
xor_twice false true = refl
xor_twice false false = refl

-- a mask that is laid on twice is taken off
pub masked_twice : (keys : FolderKeys) (doc : DocId) (id : UpdateId) (row : List Bool) → row ≡ masked keys doc id (masked keys doc id row)
masked_twice keys doc id row =
    let f : ℕ → Bool = λ j. xor (get_or row j false) (mask_bit_of keys doc id j) in
    masked_by_all keys doc id (masked keys doc id row) row (sym (length-masked keys doc id row))
    (λ j low.
    let near : j < length row = omega (arith, length-masked keys doc id row) in
    xor_twice (get_or row j false) (mask_bit_of keys doc id j)
    ∙ ap (λ (b : Bool). xor b (mask_bit_of keys doc id j)) (sym (get_or-map-range_with_len f 0 (length row) j j false near (omega arith))))
