use Rattle.std.proofs.Common.{sym, subst}
use Rattle.dory_member.specs.Within.{RunInRange}
use Rattle.dory_member.proofs.Starts.{update_run_is}
use Rattle.dory_member.proofs.begin.update_run.Goals as goal

pub returns-in-Ok-clause-range : goal.returns-in-Ok-clause-range
returns-in-Ok-clause-range c =
    let r = c.requires in
    subst RunInRange (sym c.in-Ok.ensures) (update_run_is c.args.kept c.args.seed.now c.args.used c.args.update r.state r.left r.used r.serial r.update)
