use Rattle.std.proofs.Common.{◌≡◌, ◌+◌, ◌<◌, ℕ, length, List, Some, None, get_or, map, ap, ◌∙◌, sym, subst, arith}
use Rattle.std.specs.Option.{option_map}
use Rattle.std.specs.Arc.{arc_value}
use Rattle.std.specs.Global.{Global}
use Rattle.std.proofs.lemmas.List.{length-map}
use Rattle.dory_chunks.proofs.RowBlock.{image_at}
use Rattle.std.specs.List.{slice_range}
use Rattle.dory_base.specs.declared.entry.Entry.{Entry}
use Rattle.dory_base.specs.Sum.{row_of}
use Rattle.dory_base.specs.Table.{Slots}
use Rattle.dory_base.specs.TableMeaning.{Shows}
use Rattle.dory_chunks.specs.Parts.{Part, ShowsSlot}
use Rattle.dory_chunks.proofs.chunk.Chunk.row.Goals as goal

pub returns-in-Some-clause-live : goal.returns-in-Some-clause-live
returns-in-Some-clause-live c =
    let slots : Slots = map (option_map arc_value) c.self.inside.entries.items in
    let inside : c.args.place < length slots = omega (arith, c.self.invariant.0.full) in
    let e : Entry = arc_value c.in-Some.field-0 in
    let low : c.args.place < length c.self.inside.entries.items = omega (arith, length-map c.self.inside.entries.items (option_map (arc_value {X = Entry} {Z = Global}))) in
    let live : get_or slots c.args.place None ≡ Some e = image_at (option_map arc_value) c.self.inside.entries.items c.args.place c.index.result.now None low c.index.ensures ∙ ap (option_map arc_value) c.in-Some.is in
    let shown : ShowsSlot (slice_range c.self.inside.rows.items c.start_of-start.result (c.start_of-start.result + c.self.inside.width)) (get_or slots c.args.place None) =
    subst (λ (s : ℕ). ShowsSlot (slice_range c.self.inside.rows.items s (s + c.self.inside.width)) (get_or slots c.args.place None)) (sym c.start_of-start.ensures.value) (c.self.invariant.0.shown c.args.place c.requires) in
    let words : Shows (slice_range c.self.inside.rows.items c.start_of-start.result (c.start_of-start.result + c.self.inside.width)) (row_of e.change) =
    subst (ShowsSlot (slice_range c.self.inside.rows.items c.start_of-start.result (c.start_of-start.result + c.self.inside.width))) live shown in
    (e, ap (λ (p : Part). get_or p.slots c.args.place None) (sym c.self.view_is) ∙ live, subst (λ (ws : List ℕ). Shows (slice_range ws c.start_of-start.result (c.start_of-start.result + c.self.inside.width)) (row_of e.change)) (sym c.deref.ensures.value) words)
