use Rattle.std.proofs.Common.{◌≡◌, sym, ◌∙◌, ap, subst, Option}
use Rattle.dory_shelf.specs.declared.store.Change.{Change}
use Rattle.dory_shelf.specs.Published.{Published}
use Rattle.dory_shelf.specs.Writing.{NextOf}
use Rattle.dory_shelf.proofs.Shelving.{next_is}
use Rattle.dory_shelf.proofs.writer.ShelfWriter.publish.Goals as goal

pub invariant_of-self : goal.invariant_of-self
invariant_of-self g c =
    let s = c.self.invariant in
    let k = c.self.inside.front in
    let change = c.unwrap-change.result in
    let front = c.again-front.ensures.value in
    let shown = c.published-writer.ensures in
    let next = next_is k c.self.inside.next change (sym c.take.ensures.value ∙ c.unwrap-change.ensures) s.4 in
    let shelf : c.again-front.result.shelf ≡ k.shelf = ap (λ (x : Published). x.shelf) front ∙ next.0.0 in (
      c.published-writer.result,
      c.replace.ensures.after,
      (shown.0 ∙ sym front, shown.1, shown.2, shown.3),
      s.3 ∙ ap (λ x. x.book) (sym shelf),
      subst (λ (o : Option Change). NextOf c.again-front.result o) (sym c.take.ensures.after) tt,
    )
