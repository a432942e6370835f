use Rattle.std.proofs.Common.{◌≡◌, ◌<◌, ◌%◌, List, Option, Some, None, map, get_or, subst, sym, ap, ◌∙◌, IfSome, IfNone, arith}
use Rattle.std.specs.Arc.{arc_value}
use Rattle.dory_base.specs.declared.entry.Entry.{Entry}
use Rattle.dory_base.specs.Sum.{row_of}
use Rattle.dory_base.specs.TableMeaning.{Kept, Shows}
use Rattle.dory_chunks.specs.Parts.{Part}
use Rattle.dory_chunks.proofs.PartLaws.{slot_in, no_slot_in}
use Rattle.dory_chunks.proofs.version.VersionSlotTable.row.Goals as goal

pub returns-clause-live : goal.returns-clause-live
returns-clause-live c =
    let parts : List Part = map arc_value c.self.inside.chunks.items in
    let low : c.args.slot < c.self.inside.count = omega arith in
    let same : get_or c.chunk_at.result.now.slots (c.args.slot % 64) None ≡ get_or c.args.self.now.slots c.args.slot None =
    ap (λ (p : Part). get_or p.slots (c.args.slot % 64) None) c.chunk_at.ensures ∙ sym (slot_in (c.self.inside.count) parts c.args.slot low) ∙ ap (λ (t : Kept). get_or t.slots c.args.slot None) c.self.view_is in
    subst (λ (s : Option Entry). IfSome c.row.result (λ words. (e : Entry) × (s ≡ Some e) × Shows words.now (row_of e.change))) same c.row.ensures.live

pub returns-clause-empty : goal.returns-clause-empty
returns-clause-empty c =
    let parts : List Part = map arc_value c.self.inside.chunks.items in
    let low : c.args.slot < c.self.inside.count = omega arith in
    let same : get_or c.chunk_at.result.now.slots (c.args.slot % 64) None ≡ get_or c.args.self.now.slots c.args.slot None =
    ap (λ (p : Part). get_or p.slots (c.args.slot % 64) None) c.chunk_at.ensures ∙ sym (slot_in (c.self.inside.count) parts c.args.slot low) ∙ ap (λ (t : Kept). get_or t.slots c.args.slot None) c.self.view_is in
    subst (λ (s : Option Entry). IfNone c.row.result (s ≡ None)) same c.row.ensures.empty

pub returns-then-slot-self-clause-empty : goal.returns-then-slot-self-clause-empty
returns-then-slot-self-clause-empty c =
    let parts : List Part = map arc_value c.self.inside.chunks.items in
    ap (λ (t : Kept). get_or t.slots c.args.slot None) (sym c.self.view_is) ∙ no_slot_in c.self.inside.count parts c.args.slot (omega arith)
