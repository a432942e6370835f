use Rattle.std.proofs.Common.{sym, subst}
use Rattle.dory_member.specs.Within.{RunInRange}
use Rattle.dory_member.proofs.Starts.{asking_is}
use Rattle.dory_member.proofs.begin.asking.Goals as goal

pub returns-clause-range : goal.returns-clause-range
returns-clause-range c =
    let r = c.requires in
    subst RunInRange (sym c.drawn_run.ensures) (asking_is c.args.kept c.args.seed.now c.args.phase r.state r.left r.named r.within)
