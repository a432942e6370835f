-- Cell tags under the block of an epoch's tag key, and the first that is wrong.
use Rattle.std.proofs.Common.{◌≡◌, ℕ, ◌+◌, ◌-◌, ◌<◌, ◌≤◌, Bool, false, inl, inr, List, length, get_or, map, take, ap, sym, ◌∙◌, arith}
use Rattle.std.specs.List.{range_with_len}
use Rattle.std.proofs.lemmas.Bool.{cases_lt}
use Rattle.std.proofs.lemmas.List.FromFn.{length-map-range_with_len, get_or-map-range_with_len}
use Rattle.dory_base.specs.TagBytes.{tag_number}
use Rattle.dory_base.specs.declared.ids.DocId.{DocId}
use Rattle.dory_base.specs.declared.ids.UpdateId.{UpdateId}
use Rattle.dory_hmac.specs.Hmac.{block_key, hmac_of_block}
use Rattle.dory_hmac.specs.declared.folder_keys.FolderKeys.{FolderKeys}
use Rattle.dory_seal.specs.Epoch.{epoch_of, tag_key_of}
use Rattle.dory_seal.specs.Message.{cell_message}
use Rattle.dory_seal.specs.Runs.{IsFirstOther}
use Rattle.dory_seal.specs.Seal.{cell_tag_of, HasTag, IsFirstBad}

-- the tag of a cell's message under that block is the cell's tag
pub cell_tag_is : (keys : FolderKeys) (doc : DocId) (id : UpdateId) (epoch : ℕ) (block : List ℕ) → epoch_of id ≡ epoch → block ≡ block_key (tag_key_of keys epoch)
    → (column : ℕ) (cell : Bool) → tag_number (take 16 (hmac_of_block block (cell_message doc id column cell))) ≡ cell_tag_of keys doc id column cell
unfolding cell_tag_of
cell_tag_is keys doc id epoch block within is column cell =
    ap (λ (b : List ℕ). tag_number (take 16 (hmac_of_block b (cell_message doc id column cell)))) (is ∙ ap (λ (e : ℕ). block_key (tag_key_of keys e)) (sym within))

right_at : (keys : FolderKeys) (doc : DocId) (id : UpdateId) (row : List Bool) (right : List ℕ) (from i : ℕ) → i < 64
    → right ≡ map (λ j. cell_tag_of keys doc id j (get_or row j false)) (range_with_len from 64) → get_or right i 0 ≡ cell_tag_of keys doc id (from + i) (get_or row (from + i) false)
right_at keys doc id row right from i near is =
    ap (λ (ts : List ℕ). get_or ts i 0) is
    ∙ get_or-map-range_with_len (λ j. cell_tag_of keys doc id j (get_or row j false)) from 64 i (from + i) 0 near (omega arith)

-- a run of right tags after others
pub run_is_right : (keys : FolderKeys) (doc : DocId) (id : UpdateId) (row : List Bool) (tags part right : List ℕ) (from : ℕ)
    → ((i : ℕ) → i < 64 → get_or part i 0 ≡ get_or tags (from + i) 0)
    → right ≡ map (λ j. cell_tag_of keys doc id j (get_or row j false)) (range_with_len from 64)
    → ((j : ℕ) → j < from → HasTag keys doc id row tags j)
    → ((i : ℕ) → i < 64 → get_or part i 0 ≡ get_or right i 0) → (j : ℕ) → j < from + 64 → HasTag keys doc id row tags j
run_is_right keys doc id row tags part right from at is before same j low =
    elim (cases_lt j from) [
      | inl under ↦ before j under
      | inr above ↦
          let i : ℕ = j - from in
          let near : i < 64 = omega arith in
          let back : from + i ≡ j = omega arith in
          ap (λ (k : ℕ). get_or tags k 0) (sym back)
          ∙ sym (at i near)
          ∙ same i near
          ∙ right_at keys doc id row right from i near is
          ∙ ap (λ (k : ℕ). cell_tag_of keys doc id k (get_or row k false)) back
    ]

-- the first wrong tag of a run after others that are right
pub first_bad_of_run : (keys : FolderKeys) (doc : DocId) (id : UpdateId) (row : List Bool) (tags part right : List ℕ) (from i : ℕ) → from + 64 ≤ length row
    → ((k : ℕ) → k < 64 → get_or part k 0 ≡ get_or tags (from + k) 0)
    → right ≡ map (λ j. cell_tag_of keys doc id j (get_or row j false)) (range_with_len from 64)
    → ((j : ℕ) → j < from → HasTag keys doc id row tags j)
    → IsFirstOther part right i → IsFirstBad keys doc id row tags (from + i)
first_bad_of_run keys doc id row tags part right from i inside at is before first =
    let long : length right ≡ 64 = ap length is ∙ length-map-range_with_len (λ j. cell_tag_of keys doc id j (get_or row j false)) from 64 in
    let within = first.near in
    let near : i < 64 = omega arith in
    record {
      near = omega arith;
      bad = λ e. first.other (at i near ∙ e ∙ sym (right_at keys doc id row right from i near is));
      before = λ j low.
          elim (cases_lt j from) [
            | inl under ↦ before j under
            | inr above ↦
                let k : ℕ = j - from in
                let small : k < 64 = omega arith in
                let under : k < i = omega arith in
                let back : from + k ≡ j = omega arith in
                ap (λ (n : ℕ). get_or tags n 0) (sym back)
                ∙ sym (at k small)
                ∙ first.before k under
                ∙ right_at keys doc id row right from k small is
                ∙ ap (λ (n : ℕ). cell_tag_of keys doc id n (get_or row n false)) back
          ];
    }
