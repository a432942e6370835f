-- The live slots of sealed entries carry the cell tags of their cells.
use Rattle.std.proofs.Common.{◌≡◌, ℕ, zero, suc, ◌+◌, ◌<◌, ◌^◌, Bool, true, false, cond, List, [], ◌∷◌, ◌++◌, length, map, take, set, get_or, Option, Some, None, is_none, position, refl, sym, ap, ◌∙◌, subst}
use Rattle.std.specs.Prelude.{nat_lt}
use Rattle.std.specs.List.{fold, AllByRecursion}
use Rattle.dory_base.specs.Dims.{Dims}
use Rattle.dory_base.specs.declared.ids.DocId.{DocId}
use Rattle.dory_base.specs.declared.entry.Entry.{Entry}
use Rattle.dory_base.specs.declared.entry.Change.{Change}
use Rattle.dory_base.specs.declared.entry.Change.TheVariants.{Post, Remove}
use Rattle.dory_base.specs.History.{IsEntryOf, IsChangeOf}
use Rattle.dory_base.specs.Table.{Slots, has_doc, placed, emptied, changed, step, table_of, live_from, live_of}
use Rattle.dory_base.specs.Sum.{row_of, tags_of}
use Rattle.dory_hmac.specs.declared.folder_keys.FolderKeys.{FolderKeys}
use Rattle.dory_seal.specs.Seal.{cell_tag_of, IsSealed, IsSealedChange}
use Rattle.dory_verify.specs.Tags.{line_tag}
use Rattle.dory_verify.specs.SideBySide.{IsTagged}

-- the slot is empty, or its entry's cells carry their tags
abbrev IsTaggedSlot : FolderKeys → ℕ → Option Entry → Type 0
IsTaggedSlot keys m None = Unit {0}
IsTaggedSlot keys m (Some e) = IsTagged (line_tag keys) m (record { slot = 0; entry = e })

posted : (keys : FolderKeys) (shape : Dims) (e : Entry) (s : Dims) (row : List Bool) (tags : List ℕ) → e.change ≡ Post s row tags → IsChangeOf shape (Post s row tags) → IsSealedChange keys e.doc e.id (Post s row tags)
    → IsTagged (line_tag keys) (2 ^ shape.depth) (record { slot = 0; entry = e })
posted keys shape e s row tags is fits sealed =
    let depth : 2 ^ shape.depth ≡ 2 ^ s.depth = ap (λ (d : Dims). 2 ^ d.depth) (sym fits.shape_is) in
    record {
      cells = ap (λ (c : Change). length (row_of c)) is ∙ fits.row;
      tags = ap (λ (c : Change). length (tags_of c)) is ∙ fits.tags_are;
      each = λ j h.
          subst (λ (c : Change). get_or (tags_of c) j 0 ≡ cell_tag_of keys e.doc e.id j (get_or (row_of c) j false)) (sym is) (sealed.each j (subst (λ (n : ℕ). j < n) depth h));
    }

set_tagged : (keys : FolderKeys) (m : ℕ) (slots : Slots) (i : ℕ) (x : Option Entry) → AllByRecursion (IsTaggedSlot keys m) slots → IsTaggedSlot keys m x → AllByRecursion (IsTaggedSlot keys m) (set slots i x)
set_tagged keys m [] i x all h = all
set_tagged keys m (s ∷ slots) zero x all h = (h, all.1)
set_tagged keys m (s ∷ slots) (suc i) x all h = (all.0, set_tagged keys m slots i x all.1 h)

last_tagged : (keys : FolderKeys) (m : ℕ) (slots : Slots) (x : Option Entry) → AllByRecursion (IsTaggedSlot keys m) slots → IsTaggedSlot keys m x → AllByRecursion (IsTaggedSlot keys m) (slots ++ x ∷ [])
last_tagged keys m [] x all h = (h, all)
last_tagged keys m (s ∷ slots) x all h = (all.0, last_tagged keys m slots x all.1 h)

either : (keys : FolderKeys) (m : ℕ) (b : Bool) (xs ys : Slots) → AllByRecursion (IsTaggedSlot keys m) xs → AllByRecursion (IsTaggedSlot keys m) ys → AllByRecursion (IsTaggedSlot keys m) (cond b xs ys)
either keys m true xs ys p q = p
either keys m false xs ys p q = q

placed_tagged : (keys : FolderKeys) (m : ℕ) (e : Entry) (slots : Slots) (own empty : Option ℕ) → AllByRecursion (IsTaggedSlot keys m) slots → IsTaggedSlot keys m (Some e) → AllByRecursion (IsTaggedSlot keys m) (placed e slots own empty)
placed_tagged keys m e slots (Some at) empty all h = set_tagged keys m slots at (Some e) all h
placed_tagged keys m e slots None (Some at) all h = set_tagged keys m slots at (Some e) all h
placed_tagged keys m e slots None None all h = either keys m (nat_lt (length slots) 4096) (slots ++ Some e ∷ []) slots (last_tagged keys m slots (Some e) all h) all

none_or_same : (keys : FolderKeys) (m : ℕ) (b : Bool) (x : Option Entry) → IsTaggedSlot keys m x → IsTaggedSlot keys m (cond b None x)
none_or_same keys m true x h = tt
none_or_same keys m false x h = h

emptied_tagged : (keys : FolderKeys) (m : ℕ) (doc : DocId) (slots : Slots) → AllByRecursion (IsTaggedSlot keys m) slots → AllByRecursion (IsTaggedSlot keys m) (map (emptied doc) slots)
emptied_tagged keys m doc [] all = all
emptied_tagged keys m doc (s ∷ slots) all = (none_or_same keys m (has_doc doc s) s all.0, emptied_tagged keys m doc slots all.1)

changed_tagged : (keys : FolderKeys) (shape : Dims) (e : Entry) (slots : Slots) (change : Change) → e.change ≡ change → IsChangeOf shape change → IsSealedChange keys e.doc e.id change
    → AllByRecursion (IsTaggedSlot keys (2 ^ shape.depth)) slots → AllByRecursion (IsTaggedSlot keys (2 ^ shape.depth)) (changed e slots change)
changed_tagged keys shape e slots (Post s row tags) is fits sealed all =
    placed_tagged keys (2 ^ shape.depth) e slots (position (has_doc e.doc) slots) (position is_none slots) all (posted keys shape e s row tags is fits sealed)
changed_tagged keys shape e slots Remove is fits sealed all = emptied_tagged keys (2 ^ shape.depth) e.doc slots all

folded_tagged : (keys : FolderKeys) (shape : Dims) (slots : Slots) (entries : List Entry) → AllByRecursion (IsEntryOf shape) entries → AllByRecursion (IsSealed keys) entries
    → AllByRecursion (IsTaggedSlot keys (2 ^ shape.depth)) slots → AllByRecursion (IsTaggedSlot keys (2 ^ shape.depth)) (fold step slots entries)
folded_tagged keys shape slots [] fits sealed all = all
folded_tagged keys shape slots (e ∷ entries) fits sealed all =
    folded_tagged keys shape (step slots e) entries fits.1 sealed.1 (changed_tagged keys shape e slots e.change refl fits.0.change sealed.0 all)

live_tagged : (keys : FolderKeys) (m n : ℕ) (slots : Slots) → AllByRecursion (IsTaggedSlot keys m) slots → AllByRecursion (IsTagged (line_tag keys) m) (live_from n slots)
live_tagged keys m n [] all = tt
live_tagged keys m n (None ∷ slots) all = live_tagged keys m (n + 1) slots all.1
live_tagged keys m n (Some e ∷ slots) all = (record { cells = all.0.cells; tags = all.0.tags; each = all.0.each }, live_tagged keys m (n + 1) slots all.1)

-- the live slots of sealed entries of a shape
pub all_tagged : (keys : FolderKeys) (shape : Dims) (entries : List Entry) → AllByRecursion (IsEntryOf shape) entries → AllByRecursion (IsSealed keys) entries → AllByRecursion (IsTagged (line_tag keys) (2 ^ shape.depth)) (live_of (table_of entries))
all_tagged keys shape entries fits sealed = live_tagged keys (2 ^ shape.depth) 0 (table_of entries) (folded_tagged keys shape [] entries fits sealed tt)

pub entries_taken : (shape : Dims) (n : ℕ) (entries : List Entry) → AllByRecursion (IsEntryOf shape) entries → AllByRecursion (IsEntryOf shape) (take n entries)
entries_taken shape zero entries all = tt
entries_taken shape (suc n) [] all = tt
entries_taken shape (suc n) (e ∷ entries) all = (all.0, entries_taken shape n entries all.1)
