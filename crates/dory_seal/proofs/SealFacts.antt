-- Facts of sealed entries and their plain rows, for the proofs of callers.
use Rattle.std.proofs.Common.{◌≡◌, ℕ, ◌<◌, ◌^◌, Bool, false, inl, inr, List, length, get_or, take, refl, arith}
use Rattle.std.proofs.lemmas.Bool.{cases_lt}
use Rattle.std.proofs.lemmas.List.{length-take, get_or-take, get_or_past}
use Rattle.std.proofs.lemmas.List.FromFn.{get_or-map-range_with_len}
use Rattle.dory_base.specs.Dims.{Dims}
use Rattle.dory_base.specs.History.{IsChangeOf, IsWhole}
use Rattle.dory_base.specs.Sum.{row_of, tags_of}
use Rattle.dory_base.specs.TagBytes.{IsTagBytes, tag_number_small}
use Rattle.dory_base.specs.Xor.{xor}
use Rattle.dory_base.specs.declared.entry.Change.{Change}
use Rattle.dory_base.specs.declared.entry.Change.TheVariants.{Post, Remove}
use Rattle.dory_base.specs.declared.entry.Entry.{Entry}
use Rattle.dory_base.specs.declared.ids.DocId.{DocId}
use Rattle.dory_base.specs.declared.ids.UpdateId.{UpdateId}
use Rattle.dory_hmac.specs.Hmac.{block_key, hmac_of_block}
use Rattle.dory_hmac.specs.declared.folder_keys.FolderKeys.{FolderKeys}
use Rattle.dory_hmac.proofs.Tag.{length-hmac_of_block, hmac_of_block-byte}
use Rattle.dory_seal.specs.Epoch.{epoch_of, tag_key_of}
use Rattle.dory_seal.specs.Message.{cell_message}
use Rattle.dory_seal.specs.Seal.{cell_tag_of, mask_bit_of, plain_of, HasTag, IsPostOfShape, IsSealed, IsSealedChange}
use Rattle.dory_seal.proofs.Masks.{length-masked}

-- a plain row has as many bits as there are cells
pub length-plain_of : (keys : FolderKeys) (e : Entry) → length (plain_of keys e) ≡ length (row_of e.change)
length-plain_of keys e = length-masked keys e.doc e.id (row_of e.change)

-- a bit of the plain row is the cell XOR the mask bit
pub plain_of-bit : (keys : FolderKeys) (e : Entry) (j : ℕ) → j < length (row_of e.change)
    → get_or (plain_of keys e) j false ≡ xor (get_or (row_of e.change) j false) (mask_bit_of keys e.doc e.id j)
plain_of-bit keys e j low =
    get_or-map-range_with_len (λ k. xor (get_or (row_of e.change) k false) (mask_bit_of keys e.doc e.id k)) 0 (length (row_of e.change)) j j false low (omega arith)

whole_change : (keys : FolderKeys) (doc : DocId) (id : UpdateId) (change : Change) → IsSealedChange keys doc id change → IsWhole change
whole_change keys doc id (Post shape row tags) sealed = record { shape_is = refl; row = sealed.cells; tags_are = sealed.tagged }
whole_change keys doc id Remove sealed = sealed

-- a sealed entry has a cell and a tag for each column
pub sealed_is_whole : (keys : FolderKeys) (e : Entry) → IsSealed keys e → IsWhole e.change
sealed_is_whole keys e sealed = whole_change keys e.doc e.id e.change sealed

whole_fits : (shape : Dims) (change : Change) → IsWhole change → IsPostOfShape shape change → IsChangeOf shape change
whole_fits shape change whole post =
    let w = rw post.2 at whole in
    rw post.2 w

-- a sealed post of a shape may stand in a folder of this shape
pub sealed_fits : (keys : FolderKeys) (shape : Dims) (e : Entry) → IsSealed keys e → IsPostOfShape shape e.change → IsChangeOf shape e.change
sealed_fits keys shape e sealed post = whole_fits shape e.change (sealed_is_whole keys e sealed) post

tag_of_change : (keys : FolderKeys) (doc : DocId) (id : UpdateId) (change : Change) (j : ℕ) → IsSealedChange keys doc id change → j < length (row_of change)
    → HasTag keys doc id (row_of change) (tags_of change) j
tag_of_change keys doc id (Post shape row tags) j sealed low =
    let near : j < 2 ^ shape.depth = omega (arith, sealed.cells) in
    sealed.each j near
tag_of_change keys doc id Remove j sealed low = absurd (omega arith)

-- a tag of a sealed entry is the cell tag of its cell
pub sealed_tag : (keys : FolderKeys) (e : Entry) (j : ℕ) → IsSealed keys e → j < length (row_of e.change) → HasTag keys e.doc e.id (row_of e.change) (tags_of e.change) j
sealed_tag keys e j sealed low = tag_of_change keys e.doc e.id e.change j sealed low

leading_bytes : (block message : List ℕ) → IsTagBytes (take 16 (hmac_of_block block message))
leading_bytes block message =
    let tag : List ℕ = hmac_of_block block message in
    record {
      sixteen = omega (arith, length-take 16 tag, length-hmac_of_block block message);
      small = λ i.
          elim (cases_lt i 16) [
            | inl near ↦ rw (get_or-take 16 tag i 0 near) (hmac_of_block-byte block message i)
            | inr past ↦ omega (arith, get_or_past (take 16 tag) i 0 (omega (arith, length-take 16 tag)))
          ];
    }

-- a cell tag is the number of sixteen bytes
pub cell_tag_of-lt : (keys : FolderKeys) (doc : DocId) (id : UpdateId) (column : ℕ) (cell : Bool) → cell_tag_of keys doc id column cell < 2 ^ 128
unfolding cell_tag_of
cell_tag_of-lt keys doc id column cell =
    tag_number_small (take 16 (hmac_of_block (block_key (tag_key_of keys (epoch_of id))) (cell_message doc id column cell)))
    (leading_bytes (block_key (tag_key_of keys (epoch_of id))) (cell_message doc id column cell))
