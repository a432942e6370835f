-- Lines of a manifest, and the rows of their slots.
use Rattle.std.proofs.Common.{◌≡◌, ℕ, ◌^◌, ◌<◌, ◌≤◌, Bool, false, List, length, get_or, Option, Some, None, sym, ap, ◌∙◌, arith}
use Rattle.std.proofs.Math.Nat.{pow-le-pow_right}
use Rattle.std.proofs.lemmas.List.{length-map}
use Rattle.dory_base.specs.Dims.{Dims, IsDims}
use Rattle.dory_base.specs.declared.entry.Entry.{Entry}
use Rattle.dory_base.specs.declared.entry.Change.{Change}
use Rattle.dory_base.specs.declared.entry.Change.TheVariants.{Post, Remove}
use Rattle.dory_base.specs.declared.found.Place.{Place}
use Rattle.dory_base.specs.Sum.{parity, row_of}
use Rattle.dory_base.specs.Table.{Slots, Live, live_of, place_of, manifest_of}
use Rattle.dory_base.specs.TableMeaning.{Kept, IsKept, IsPostedAs, IsSlotOf}
use Rattle.dory_base.proofs.TableLaws.{length-live}
use Rattle.dory_base.proofs.Lines.{IsLine, line_at, entry_at}
use Rattle.dory_scan.specs.Words.{parities_of}

posted_row : (shape : Dims) (change : Change) → IsPostedAs shape change → length (row_of change) ≡ 2 ^ shape.depth
posted_row shape (Post posted row tags) is = is.row
posted_row shape Remove is = absurd is

slot_of : (shape : Dims) (s : Option Entry) (e : Entry) → s ≡ Some e → IsSlotOf shape s → length (row_of e.change) ≡ 2 ^ shape.depth
slot_of shape None e is h = absurd (cc)
slot_of shape (Some x) e is h = let same : x ≡ e = cc in ap (λ (y : Entry). length (row_of y.change)) (sym same) ∙ posted_row shape x.change h

-- the row in a slot has a cell for each column
pub row_there : (t : Kept) (n : ℕ) (e : Entry) → IsKept t → get_or t.slots n None ≡ Some e → length (row_of e.change) ≡ 2 ^ t.shape.depth
row_there t n e kept is = slot_of t.shape (get_or t.slots n None) e is (kept.posts n)

-- a row has at most 2,048 cells
pub few_cells : (shape : Dims) → IsDims shape → 2 ^ shape.depth ≤ 2048
few_cells shape dims = let most : 2 ^ shape.depth ≤ 2 ^ 11 = pow-le-pow_right (omega arith) dims.high in omega arith

pub few_lines : (t : Kept) → IsKept t → length (manifest_of t.slots) ≤ 4096
few_lines t kept = omega (arith, kept.few, length-live 0 t.slots, length-map (live_of t.slots) place_of)

pub length-parities : (slots : Slots) (selector : List Bool) → length (parities_of slots selector) ≡ length (manifest_of slots)
length-parities slots selector = length-map (live_of slots) (λ l. parity selector (row_of l.entry.change)) ∙ sym (length-map (live_of slots) place_of)

-- a line's slot has an entry, whose parity stands at that line
pub record IsLineOf (slots : Slots) (line : ℕ) (p : Place) (e : Entry) : Type 0 where
  pub there : get_or slots p.slot None ≡ Some e
  pub bit : (selector : List Bool) → get_or (parities_of slots selector) line false ≡ parity selector (row_of e.change)

pub line_is : (slots : Slots) (line : ℕ) (p : Place) → line < length (manifest_of slots) → p ≡ get_or (manifest_of slots) line p → (e : Entry) × IsLineOf slots line p e
line_is slots line p h is =
    let inside : line < length (live_of slots) = omega (arith, length-map (live_of slots) place_of) in
    let l : (l : Live) × IsLine 0 slots line l = line_at slots line inside in
    let slot_is : p.slot ≡ l.0.slot = ap (λ (q : Place). q.slot) (is ∙ l.1.line p) in (
      l.0.entry,
      record {
        there = ap (λ (n : ℕ). get_or slots n None) slot_is ∙ entry_at slots line l.0 l.1;
        bit = λ selector. l.1.image (λ x. parity selector (row_of x.entry.change));
      },
    )
