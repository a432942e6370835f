use Rattle.std.proofs.Common.{ap, subst}
use Rattle.dory_shelf.specs.Published.{Published}
use Rattle.dory_shelf.specs.Versions.{IsAnswer, version_at}
use Rattle.dory_shelf.proofs.writer.ShelfWriter.version.Goals as goal

pub returns : goal.returns
returns g c = subst (λ (k : Published). IsAnswer (version_at k c.args.number) c.found.result) (ap (λ x. x.known) c.self.view_is) c.found.ensures
