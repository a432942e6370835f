use Rattle.std.proofs.Common.{subst}
use Rattle.dory_shared.specs.Seen.{Seen}
use Rattle.dory_shared.specs.Answering.{AnswersAt}
use Rattle.dory_shared.proofs.desk.Desk.write.Goals as goal

pub returns-clause-exact : goal.returns-clause-exact
returns-clause-exact g c =
    subst (λ (s : Seen). AnswersAt s.role s.known c.args.want.now c.step-what.result c.step-what.new.self.known) c.self.view_is c.step-what.ensures.answers
