use Rattle.std.proofs.Common.{◌∙◌, ◌/◌, ◌%◌, set, List, ap}
use mathlib.Core.Path.{ap₂}
use Rattle.std.specs.Option.{option_map}
use Rattle.std.specs.Arc.{arc_value}
use Rattle.std.proofs.lemmas.List.{map-set}
use Rattle.dory_chunks.specs.Parts.{Part, put_in}
use Rattle.dory_chunks.proofs.parts.replaced.Goals as goal

pub returns-clause-value : goal.returns-clause-value
returns-clause-value g c =
    map-set arc_value c.in_ok-all.all.items (c.args.n / 64) c.in_ok-all-2.field-0
    ∙ ap₂ (λ (s : List Part) (p : Part). set s (c.args.n / 64) p) c.in_ok-all.ensures
    (c.in_ok-all-2.ensures.ok ∙ c.put.ensures ∙ ap (λ (p : Part). put_in p (c.args.n % 64) (option_map arc_value c.args.slot)) (c.in_ok-chunk.ensures.value ∙ c.chunk_at.ensures))
