use Rattle.std.proofs.Common.{List, Option, Some, set, ap, ◌∙◌}
use Rattle.std.specs.Option.{option_map}
use Rattle.std.specs.Arc.{arc_value}
use Rattle.std.proofs.lemmas.List.{map-set}
use Rattle.dory_base.specs.declared.entry.Entry.{Entry}
use Rattle.dory_log.proofs.places.Places.put.Goals as goal

pub returns : goal.returns
returns c =
    map-set (option_map arc_value) c.self.inside.places.items c.args.member (Some c.args.entry)
    ∙ ap (λ (places : List (Option Entry)). set places c.args.member (Some (arc_value c.args.entry))) c.self.view_is
