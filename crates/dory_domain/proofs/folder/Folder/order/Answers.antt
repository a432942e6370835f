use Rattle.std.proofs.Common.{Ok, rules}
use Rattle.dory_base.specs.declared.plan.Plan.TheVariants.{Again}
use Rattle.dory_domain.proofs.StepHeld.{by_parts}
use Rattle.dory_domain.proofs.RangeLaws.{order_says}
use Rattle.dory_domain.proofs.folder.Folder.order.Goals as goal

pub returns-in-Ok-Again-clause-range : goal.returns-in-Ok-Again-clause-range
returns-in-Ok-Again-clause-range c =
    order_says c.self.inside.log.log c.args.id (Ok (Again c.in-Ok-Again.number)) (by_parts c.self.inside.folder.0 c.self.inside.versions.shape c.self.inside.versions.retained c.self.inside.history c.self.inside.log.log).state c.self.invariant.0.state.log c.self.invariant.1 c.requires (search rules)
