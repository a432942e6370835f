use Rattle.std.proofs.Common.{◌≡◌, sym, ◌∙◌, refl, subst}
use Rattle.dory_shelf.specs.Published.{Published, Grew}
use Rattle.dory_shelf.proofs.Growing.{grew_self}
use Rattle.dory_shelf.proofs.Shelving.{forks, merges}
use Rattle.dory_shelf.proofs.reader.seated.Goals as goal

pub tell-requires : goal.tell-requires
tell-requires c = forks _ _

pub learn-requires-clause-rule : goal.learn-requires-clause-rule
learn-requires-clause-rule c = merges _ _ _ _

pub invariant_of-result : goal.invariant_of-result
invariant_of-result c =
    let w = c.args.writer.now in
    let shown = c.requires.shown in
    let front : c.again.result ≡ w.desk.shown.value.known = c.again.ensures.value ∙ sym shown.0 in (
      c.learn.new.self,
      refl,
      (
        w.desk.shown.value,
        c.learn.ensures.1 ∙ (c.tell.ensures.given.1 ∙ shown.3),
        subst (λ (k : Published). Grew w.desk.shown.value.known k) (sym front) (grew_self w.desk.shown.value.known),
      ),
    )
