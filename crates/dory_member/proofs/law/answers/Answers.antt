use Rattle.dory_member.proofs.Queries.{lists_answer}
use Rattle.dory_member.proofs.law.answers.Goals as goal

pub returns : goal.returns
returns c = lists_answer
