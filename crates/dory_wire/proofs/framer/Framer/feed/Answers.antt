use Rattle.std.proofs.Common.{◌++◌, sym, subst}
use Rattle.std.proofs.lemmas.Result.{on_ok_weaker}
use Rattle.dory_wire.specs.Cut.{IsCutting}
use Rattle.dory_wire.proofs.Cuts.{feeds}
use Rattle.dory_wire.proofs.framer.Framer.feed.Goals as goal

pub returns-clause-cut : goal.returns-clause-cut
returns-clause-cut c = λ fed taken is.
    on_ok_weaker c.append.result (λ held. subst (IsCutting (fed ++ c.args.piece.now) taken) (sym held) (feeds fed taken c.args.self.now c.args.piece.now is)) c.append.ensures.ok
