use Rattle.dory_verify.proofs.Beside.{right_beside_lead, right_beside_follow}
use Rattle.dory_verify.proofs.law.right_beside_an_honest_domain.Goals as goal

pub returns-clause-lead : goal.returns-clause-lead
returns-clause-lead c = right_beside_lead

pub returns-clause-follow : goal.returns-clause-follow
returns-clause-follow c = right_beside_follow
