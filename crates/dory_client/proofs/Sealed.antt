-- A sealed post is within the ranges of a message.
use Rattle.std.proofs.Common.{◌≡◌, ℕ, ◌<◌, ◌^◌, Bool, false, List, [], ◌∷◌, length, get_or, map, refl, ◌∙◌, subst}
use Rattle.std.specs.List.{range_with_len, list_any, AllByRecursion}
use Rattle.std.proofs.lemmas.List.FromFn.{length-map-range_with_len}
use Rattle.dory_base.specs.Dims.{Dims, IsDims}
use Rattle.dory_base.specs.declared.entry.Entry.{Entry}
use Rattle.dory_base.specs.declared.entry.Change.TheVariants.{Post}
use Rattle.dory_base.specs.declared.ids.DocId.{DocId}
use Rattle.dory_base.specs.declared.ids.UpdateId.{UpdateId}
use Rattle.dory_bloom.specs.Positions.{positions_of}
use Rattle.dory_bloom.specs.PlainRow.{is_among, plain_row_of}
use Rattle.dory_hmac.specs.declared.folder_keys.FolderKeys.{FolderKeys}
use Rattle.dory_seal.specs.Seal.{cell_tag_of, masked, IsSealingOf}
use Rattle.dory_seal.proofs.Masks.{length-masked}
use Rattle.dory_seal.proofs.SealFacts.{cell_tag_of-lt}
use Rattle.dory_seal.proofs.Sealing.{sealing}
use Rattle.dory_wire.specs.Spelling.{IsEntry, IsId}
use Rattle.std.specs.Prelude.{IfOk, Result, Ok, Err}

all_small : (f : ℕ → ℕ) → ((j : ℕ) → f j < 2 ^ 128) → (js : List ℕ) → AllByRecursion (λ t. t < 2 ^ 128) (map f js)
all_small f small [] = tt
all_small f small (j ∷ js) = (small j, all_small f small js)

abbrev tag_at : FolderKeys → DocId → UpdateId → List Bool → ℕ → ℕ
tag_at keys doc id cells j = cell_tag_of keys doc id j (get_or cells j false)

abbrev tags_of : FolderKeys → DocId → UpdateId → List Bool → List ℕ
tags_of keys doc id cells = map (λ j. cell_tag_of keys doc id j (get_or cells j false)) (range_with_len 0 (length cells))

-- a plain row has a cell for each column
pub length-plain_row : (keys : FolderKeys) (shape : Dims) (words : List (List ℕ)) → length (plain_row_of keys shape words) ≡ 2 ^ shape.depth
length-plain_row keys shape words = length-map-range_with_len (λ column. list_any (λ word. is_among column (positions_of keys shape word)) words) 0 (2 ^ shape.depth)

-- the one sealing of a row is within the ranges
pub sealed_range : (keys : FolderKeys) (shape : Dims) (id : UpdateId) (doc : DocId) (row : List Bool) (e : Entry) → IsDims shape → length row ≡ 2 ^ shape.depth → IsId id → doc.0 < 2 ^ 32
    → ((other : Entry) → IsSealingOf keys shape id doc row other → other ≡ e) → IsEntry e
sealed_range keys shape id doc row e dims long is small only =
    let cells = masked keys doc id row in
    let many : length cells ≡ 2 ^ shape.depth = length-masked keys doc id row ∙ long in
    let made : Entry = record { id = id; doc = doc; change = Post shape cells (tags_of keys doc id cells) } in
    let range : IsEntry made = record {
      id = is;
      doc = small;
      change = record {
        dims = dims;
        cells = record { shape_is = refl; row = many; tags_are = length-map-range_with_len (tag_at keys doc id cells) 0 (length cells) ∙ many };
        wide = all_small (tag_at keys doc id cells) (λ j. cell_tag_of-lt keys doc id j (get_or cells j false)) (range_with_len 0 (length cells));
      };
    } in
    subst IsEntry (only made (sealing keys shape id doc row cells (tags_of keys doc id cells) long refl refl)) range

-- so is what a call gives that seals it
pub sealed_ok : {E : Type 0} (keys : FolderKeys) (shape : Dims) (id : UpdateId) (doc : DocId) (row : List Bool) (result : Result Entry E) → IsDims shape → length row ≡ 2 ^ shape.depth → IsId id → doc.0 < 2 ^ 32
    → IfOk result (λ e. (other : Entry) → IsSealingOf keys shape id doc row other → other ≡ e) → IfOk result IsEntry
sealed_ok keys shape id doc row (Ok e) dims long is small only = sealed_range keys shape id doc row e dims long is small only
sealed_ok keys shape id doc row (Err e) dims long is small only = tt
