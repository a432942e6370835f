use Rattle.std.proofs.Common.{sym, subst}
use Rattle.dory_shelf.specs.Published.{Published}
use Rattle.dory_shelf.specs.Versions.{IsAnswer, version_at}
use Rattle.dory_shelf.proofs.Shelving.{enters}
use Rattle.dory_shelf.proofs.reader.version_at_enter.Goals as goal

pub enter_as-requires : goal.enter_as-requires
enter_as-requires c x = enters _ _ x

pub returns-in-Err-clause-version : goal.returns-in-Err-clause-version
returns-in-Err-clause-version c = subst (λ (k : Published). IsAnswer (version_at k c.args.number) c.unread-version.result) (sym c.again.ensures.value) c.unread-version.ensures
