use Rattle.dory_verify.proofs.Deciding.{decided_beside_lead, decided_beside_follow}
use Rattle.dory_verify.proofs.law.tags_decide.Goals as goal

pub returns-clause-lead : goal.returns-clause-lead
returns-clause-lead c = decided_beside_lead

pub returns-clause-follow : goal.returns-clause-follow
returns-clause-follow c = decided_beside_follow
