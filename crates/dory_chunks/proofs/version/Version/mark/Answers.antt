use Rattle.std.proofs.Common.{◌<◌, ◌%◌, length, map, get_or, List, None, ap, ◌∙◌, sym, subst, arith}
use Rattle.std.specs.Arc.{arc_value}
use Rattle.std.specs.Global.{Global}
use Rattle.std.proofs.lemmas.List.{length-map}
use Rattle.dory_base.specs.TableMeaning.{Kept}
use Rattle.dory_chunks.specs.Marks.{mark_of}
use Rattle.dory_chunks.specs.Parts.{Part, slots_in}
use Rattle.dory_chunks.proofs.PartLaws.{slot_in, length-slots_in}
use Rattle.dory_chunks.proofs.version.Version.mark.Goals as goal

pub returns : goal.returns
returns c =
    let parts : List Part = map arc_value c.self.inside.chunks.items in
    let inside : c.args.n < length (slots_in c.self.inside.count parts) = subst (λ (t : Kept). c.args.n < length t.slots) (sym c.self.view_is) c.requires in
    let low : c.args.n < c.self.inside.count = omega (arith, inside, length-slots_in c.self.inside.count parts) in
    c.mark.ensures ∙ ap mark_of (ap (λ (p : Part). get_or p.slots (c.args.n % 64) None) c.chunk_at.ensures
    ∙ sym (slot_in c.self.inside.count parts c.args.n low)
    ∙ ap (λ (t : Kept). get_or t.slots c.args.n None) c.self.view_is)

pub chunk_at-requires : goal.chunk_at-requires
chunk_at-requires c =
    let parts : List Part = map arc_value c.self.inside.chunks.items in
    let inside : c.args.n < length (slots_in c.self.inside.count parts) = subst (λ (t : Kept). c.args.n < length t.slots) (sym c.self.view_is) c.requires in
    omega (arith, inside, length-slots_in c.self.inside.count parts, c.self.invariant.1.reached, length-map c.self.inside.chunks.items (arc_value {X = Part} {Z = Global}))
