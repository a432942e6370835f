use Rattle.dory_member.proofs.Starts.{ended_is}
use Rattle.dory_member.proofs.begin.ended.Goals as goal

pub returns-clause-range : goal.returns-clause-range
returns-clause-range c = ended_is c.args.kept c.args.seed.now c.args.outcome c.requires.state c.requires.seen
