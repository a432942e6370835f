use Rattle.std.proofs.Common.{map, position, ap, ◌∙◌}
use Rattle.std.specs.Option.{option_map}
use Rattle.std.specs.Arc.{arc_value}
use Rattle.dory_chunks.specs.Marks.{is_mark_of, is_slot_of}
use Rattle.dory_chunks.specs.Parts.{Part}
use Rattle.dory_chunks.proofs.TargetLaws.{sought_marked}
use Rattle.dory_chunks.proofs.chunk.Chunk.first.Goals as goal

pub returns : goal.returns
returns c =
    c.first_marked.ensures ∙ ap (position (is_mark_of c.args.doc)) (c.deref.ensures.value ∙ c.self.invariant.1)
    ∙ sought_marked c.args.doc (map (option_map arc_value) c.self.inside.entries.items)
    ∙ ap (λ (p : Part). position (is_slot_of c.args.doc) p.slots) c.self.view_is
