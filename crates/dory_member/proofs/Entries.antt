-- The entry of a pending update is in range, and is the sealed one.
use Rattle.std.proofs.Common.{◌≡◌, ℕ, ◌<◌, ◌^◌, Bool, false, List, [], ◌∷◌, length, get_or, map, refl, ◌∙◌, arith}
use Rattle.std.specs.Prelude.{Option, Some, None, IfSome}
use Rattle.std.specs.List.{range_with_len, AllByRecursion}
use Rattle.std.proofs.lemmas.List.FromFn.{length-map-range_with_len}
use Rattle.dory_base.specs.Dims.{Dims}
use Rattle.dory_base.specs.declared.ids.DocId.{DocId}
use Rattle.dory_base.specs.declared.ids.UpdateId.{UpdateId}
use Rattle.dory_hmac.specs.declared.folder_keys.FolderKeys.{FolderKeys}
use Rattle.dory_seal.specs.Seal.{cell_tag_of, masked, IsSealingOf}
use Rattle.dory_seal.proofs.Masks.{length-masked}
use Rattle.dory_seal.proofs.SealFacts.{cell_tag_of-lt}
use Rattle.dory_seal.proofs.Sealing.{sealing}
use Rattle.dory_base.specs.Dims.{column_count}
use Rattle.dory_state.specs.Spelling.{IsKeptState, IsPending}
use Rattle.dory_state.specs.declared.kept.Pending.{Pending}
use Rattle.dory_state.specs.declared.kept.KeptState.{KeptState}
use Rattle.dory_wire.specs.Spelling.{IsChange, IsEntry}
use Rattle.dory_member.specs.Course.{change_of, cell_tags, entry_of, folder_keys, id_of, sealed_row}

all_small : (f : ℕ → ℕ) → ((j : ℕ) → f j < 2 ^ 128) → (js : List ℕ) → AllByRecursion (λ t. t < 2 ^ 128) (map f js)
all_small f small [] = tt
all_small f small (j ∷ js) = (small j, all_small f small js)

length-cell_tags : (keys : FolderKeys) (doc : DocId) (id : UpdateId) (cells : List Bool) → length (cell_tags keys doc id cells) ≡ length cells
length-cell_tags keys doc id cells = length-map-range_with_len (λ j. cell_tag_of keys doc id j (get_or cells j false)) 0 (length cells)

change_range : (k : KeptState) (p : Pending) (r : Option (List Bool)) → IsKeptState k → IfSome r (λ row. length row ≡ column_count k.shape) → IsChange (change_of k p r)
change_range k p None h fits = tt
change_range k p (Some row) h fits =
    let keys = folder_keys k in
    let cells = masked keys p.doc (id_of k p) row in
    let long : length cells ≡ column_count k.shape = length-masked keys p.doc (id_of k p) row ∙ fits in
    record {
      dims = h.shape;
      cells = record { shape_is = refl; row = long; tags_are = length-cell_tags keys p.doc (id_of k p) cells ∙ long };
      wide = all_small (λ j. cell_tag_of keys p.doc (id_of k p) j (get_or cells j false)) (λ j. cell_tag_of-lt keys p.doc (id_of k p) j (get_or cells j false)) (range_with_len 0 (length cells));
    }

-- the entry of an update is in range
pub entry_range : (k : KeptState) (p : Pending) → IsKeptState k → IsPending k.shape (2 ^ 64) p → IsEntry (entry_of k p)
entry_range k p h is = record {
  id = record { member = omega (arith, h.member); some = is.serial; serial = is.past };
  doc = is.doc;
  change = change_range k p p.row h is.row;
}

-- a row under its mask, with the tags of its cells, is its sealing
pub sealed_is : (keys : FolderKeys) (shape : Dims) (id : UpdateId) (doc : DocId) (row : List Bool) → length row ≡ 2 ^ shape.depth
    → IsSealingOf keys shape id doc row (record { id = id; doc = doc; change = sealed_row keys shape id doc row })
sealed_is keys shape id doc row long = sealing keys shape id doc row (masked keys doc id row) (cell_tags keys doc id (masked keys doc id row)) long refl refl
