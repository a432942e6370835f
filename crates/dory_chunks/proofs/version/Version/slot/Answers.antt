use Rattle.std.proofs.Common.{◌<◌, ◌%◌, map, get_or, List, None, ap, ◌∙◌, sym, arith}
use Rattle.std.specs.Arc.{arc_value}
use Rattle.dory_base.specs.TableMeaning.{Kept}
use Rattle.dory_chunks.specs.Parts.{Part}
use Rattle.dory_chunks.proofs.PartLaws.{slot_in, no_slot_in}
use Rattle.dory_chunks.proofs.version.Version.slot.Goals as goal

pub returns : goal.returns
returns c =
    let parts : List Part = map arc_value c.self.inside.chunks.items in
    let low : c.args.n < c.self.inside.count = omega arith in
    c.get.ensures ∙ ap (λ (p : Part). get_or p.slots (c.args.n % 64) None) c.chunk_at.ensures
    ∙ sym (slot_in (c.self.inside.count) parts c.args.n low)
    ∙ ap (λ (t : Kept). get_or t.slots c.args.n None) c.self.view_is

pub returns-then-n-self : goal.returns-then-n-self
returns-then-n-self c =
    let parts : List Part = map arc_value c.self.inside.chunks.items in
    sym (ap (λ (t : Kept). get_or t.slots c.args.n None) (sym c.self.view_is) ∙ no_slot_in c.self.inside.count parts c.args.n (omega arith))
