use Rattle.std.proofs.Common.{◌∙◌, ap, sym, subst, drop, List, ◌≡◌, ◌∷◌, [], ◌++◌, None}
use Rattle.dory_shelf.specs.declared.store.Change.{Change}
use Rattle.dory_shelf.specs.Published.{Published, Grew}
use Rattle.dory_shelf.proofs.Growing.{grew_self}
use Rattle.dory_shelf.proofs.Shelving.{publishes}
use Rattle.dory_shelf.proofs.open.primed.Goals as goal

pub publish_as-writer-requires : goal.publish_as-writer-requires
publish_as-writer-requires g c next is =
    let w = c.append.new.self in
    let k = c.args.front.now in
    let change : Change = record { front = c.again.result; stored = None } in
    let one : drop w.behind w.log.items ≡ change ∷ [] = c.in_default.ensures.pending ∙ ap (λ (l : List Change). l ++ change ∷ []) c.requires.2 in
    let grew : Grew k c.again.result = subst (λ (j : Published). Grew k j) (sym c.again.ensures.value) (grew_self k) in
    publishes _ _ w.desk.shown.value next k (drop w.behind w.log.items) change (ap (λ d. d.shown.value.known) c.append.ensures.desk ∙ c.requires.0) one is
    (grew, c.again.ensures.lawful, tt)
