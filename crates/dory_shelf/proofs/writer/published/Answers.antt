use Rattle.std.proofs.Common.{◌∙◌, ap, drop, List, ◌≡◌, ◌∷◌, [], ◌++◌}
use Rattle.dory_shelf.specs.declared.store.Change.{Change}
use Rattle.dory_shelf.proofs.Shelving.{publishes}
use Rattle.dory_shelf.proofs.writer.published.Goals as goal

pub publish_as-writer-requires : goal.publish_as-writer-requires
publish_as-writer-requires g c next is =
    let w = c.appended-writer.result in
    let one : drop w.behind w.log.items ≡ c.args.change ∷ [] = c.appended-writer.ensures.pending ∙ ap (λ (l : List Change). l ++ c.args.change ∷ []) c.requires.shown.2 in
    publishes _ _ w.desk.shown.value next c.args.front.now (drop w.behind w.log.items) c.args.change (ap (λ d. d.shown.value.known) c.appended-writer.ensures.desk ∙ c.requires.shown.0) one is c.requires.next
