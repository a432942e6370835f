use Rattle.std.proofs.Common.{List, Option, None, set, ap, ◌∙◌}
use Rattle.std.specs.Option.{option_map}
use Rattle.std.specs.Arc.{arc_value}
use Rattle.std.proofs.lemmas.List.{map-set}
use Rattle.dory_base.specs.declared.entry.Entry.{Entry}
use Rattle.dory_log.proofs.places.Places.clear.Goals as goal

pub returns : goal.returns
returns c =
    map-set (option_map arc_value) c.self.inside.places.items c.args.member None
    ∙ ap (λ (places : List (Option Entry)). set places c.args.member None) c.self.view_is
