use Rattle.std.proofs.Common.{Ok, Err, rules}
use Rattle.dory_base.specs.declared.plan.StagePlan.TheVariants.{Done}
use Rattle.dory_domain.proofs.StepHeld.{by_parts}
use Rattle.dory_domain.proofs.RangeLaws.{stage_says}
use Rattle.dory_domain.proofs.folder.Folder.stage.Goals as goal

pub returns-in-Ok-Done-clause-range : goal.returns-in-Ok-Done-clause-range
returns-in-Ok-Done-clause-range c =
    stage_says c.self.inside.log.log c.args.entry.now (Ok (Done c.in-Ok-Done.number)) (by_parts c.self.inside.folder.0 c.self.inside.versions.shape c.self.inside.versions.retained c.self.inside.history c.self.inside.log.log).state c.self.invariant.0.state.log c.self.invariant.1 c.self.invariant.0.dims c.requires.id (search rules)

pub returns-in-Err-clause-range : goal.returns-in-Err-clause-range
returns-in-Err-clause-range c =
    stage_says c.self.inside.log.log c.args.entry.now (Err c.in-Err.code) (by_parts c.self.inside.folder.0 c.self.inside.versions.shape c.self.inside.versions.retained c.self.inside.history c.self.inside.log.log).state c.self.invariant.0.state.log c.self.invariant.1 c.self.invariant.0.dims c.requires.id (search rules)
