use Rattle.std.proofs.Common.{Err, rules}
use Rattle.dory_domain.proofs.StepHeld.{by_parts}
use Rattle.dory_domain.proofs.RangeLaws.{follow_says}
use Rattle.dory_domain.proofs.folder.Folder.follow.Goals as goal

pub returns-in-Err-clause-range : goal.returns-in-Err-clause-range
returns-in-Err-clause-range c =
    follow_says c.self.inside.log.log c.args.number c.args.id (Err c.in-Err.code) (by_parts c.self.inside.folder.0 c.self.inside.versions.shape c.self.inside.versions.retained c.self.inside.history c.self.inside.log.log).state c.self.invariant.0.state.log c.self.invariant.1 c.requires.number c.requires.id (search rules)
