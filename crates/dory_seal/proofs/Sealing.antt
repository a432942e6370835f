-- What a sealed entry is.
use Rattle.std.proofs.Common.{◌≡◌, ℕ, ◌<◌, ◌^◌, Bool, false, List, length, get_or, map, refl, ap, sym, ◌∙◌, arith}
use mathlib.Core.Path.{ap₂}
use Rattle.std.specs.List.{range_with_len}
use Rattle.std.proofs.lemmas.List.FromFn.{length-map-range_with_len, get_or-map-range_with_len, fill_by_all}
use Rattle.dory_base.specs.Dims.{Dims}
use Rattle.dory_base.specs.declared.entry.Change.TheVariants.{Post}
use Rattle.dory_base.specs.declared.entry.Entry.{Entry}
use Rattle.dory_base.specs.declared.ids.DocId.{DocId}
use Rattle.dory_base.specs.declared.ids.UpdateId.{UpdateId}
use Rattle.dory_hmac.specs.declared.folder_keys.FolderKeys.{FolderKeys}
use Rattle.dory_seal.specs.Seal.{cell_tag_of, masked, IsSealedRow, IsSealingOf}
use Rattle.dory_seal.proofs.Masks.{length-masked, masked_twice}

-- the tag of each of so many cells
abbrev pub tags_over : FolderKeys → DocId → UpdateId → ℕ → List Bool → List ℕ
tags_over keys doc id columns cells = map (λ j. cell_tag_of keys doc id j (get_or cells j false)) (range_with_len 0 columns)

-- a row with the tags of its cells is sealed
pub tagged_row : (keys : FolderKeys) (doc : DocId) (id : UpdateId) (columns : ℕ) (cells : List Bool) (tags : List ℕ) → length cells ≡ columns
    → tags ≡ tags_over keys doc id (length cells) cells → IsSealedRow keys doc id columns cells tags
tagged_row keys doc id columns cells tags long tagged =
    let f : ℕ → ℕ = λ j. cell_tag_of keys doc id j (get_or cells j false) in
    let count : length tags ≡ length cells = ap length tagged ∙ length-map-range_with_len f 0 (length cells) in
    record {
      cells = long;
      tagged = count ∙ long;
      each = λ j near.
          let low : j < length cells = omega (arith, long) in
          ap (λ (ts : List ℕ). get_or ts j 0) tagged ∙ get_or-map-range_with_len f 0 (length cells) j j 0 low (omega arith);
    }

-- the tags of a sealed row are those of its cells
pub tags_are : (keys : FolderKeys) (doc : DocId) (id : UpdateId) (columns : ℕ) (cells : List Bool) (tags : List ℕ) → IsSealedRow keys doc id columns cells tags
    → tags ≡ tags_over keys doc id columns cells
tags_are keys doc id columns cells tags sealed = fill_by_all (λ j. cell_tag_of keys doc id j (get_or cells j false)) tags columns 0 sealed.tagged sealed.each

-- the sealed entry, written out
abbrev pub sealed_entry : FolderKeys → Dims → UpdateId → DocId → List Bool → Entry
sealed_entry keys shape id doc row = record {
  id = id;
  doc = doc;
  change = Post shape (masked keys doc id row) (tags_over keys doc id (2 ^ shape.depth) (masked keys doc id row));
}

-- an entry that seals a row is that one
written_out : (keys : FolderKeys) (shape : Dims) (id : UpdateId) (doc : DocId) (row : List Bool) (e : Entry) → IsSealingOf keys shape id doc row e → e ≡ sealed_entry keys shape id doc row
written_out keys shape id doc row e is =
    let cells : List Bool = is.post.0 in
    let tags : List ℕ = is.post.1 in
    let change : e.change ≡ Post shape cells tags = is.post.2 in
    let sealed : IsSealedRow keys doc id (2 ^ shape.depth) cells tags = rw (is.id_is, is.doc_is, change) at is.sealed in
    let plain : masked keys doc id cells ≡ row = rw (is.id_is, is.doc_is, change) at is.plain in
    let cells_are : cells ≡ masked keys doc id row = masked_twice keys doc id cells ∙ ap (masked keys doc id) plain in
    let tagged : tags ≡ tags_over keys doc id (2 ^ shape.depth) (masked keys doc id row) =
    tags_are keys doc id (2 ^ shape.depth) cells tags sealed ∙ ap (tags_over keys doc id (2 ^ shape.depth)) cells_are
    in
    let posts : e.change ≡ Post shape (masked keys doc id row) (tags_over keys doc id (2 ^ shape.depth) (masked keys doc id row)) =
    change ∙ ap₂ (λ (r : List Bool) (t : List ℕ). Post shape r t) cells_are tagged
    in
    λ i. record { id = is.id_is i; doc = is.doc_is i; change = posts i }

-- two entries that seal one row for one document and one update are one
pub sealing_is_one : (keys : FolderKeys) (shape : Dims) (id : UpdateId) (doc : DocId) (row : List Bool) (a b : Entry)
    → IsSealingOf keys shape id doc row a → IsSealingOf keys shape id doc row b → a ≡ b
sealing_is_one keys shape id doc row a b is_a is_b = written_out keys shape id doc row a is_a ∙ sym (written_out keys shape id doc row b is_b)

-- a row under its mask, with the tags of its cells
pub sealing : (keys : FolderKeys) (shape : Dims) (id : UpdateId) (doc : DocId) (row cells : List Bool) (tags : List ℕ) → length row ≡ 2 ^ shape.depth
    → cells ≡ masked keys doc id row → tags ≡ tags_over keys doc id (length cells) cells
    → IsSealingOf keys shape id doc row (record { id = id; doc = doc; change = Post shape cells tags })
sealing keys shape id doc row cells tags long under tagged =
    let count : length cells ≡ 2 ^ shape.depth = ap length under ∙ length-masked keys doc id row ∙ long in
    record {
      id_is = refl;
      doc_is = refl;
      post = (cells, tags, refl);
      sealed = tagged_row keys doc id (2 ^ shape.depth) cells tags count tagged;
      plain = ap (masked keys doc id) under ∙ sym (masked_twice keys doc id row);
    }
