use Rattle.std.proofs.Common.{ap}
use Rattle.dory_member.specs.declared.phase.Run.{Run}
use Rattle.dory_member.specs.Course.{outcome_at}
use Rattle.dory_member.proofs.MoreReplies.{one_more_ask, one_more_run}
use Rattle.dory_member.proofs.law.reply_by_reply.Goals as goal

pub returns-clause-goes_on : goal.returns-clause-goes_on
returns-clause-goes_on c run frames frame = one_more_run run frames frame

pub returns-clause-asks : goal.returns-clause-asks
returns-clause-asks c run frames frame = one_more_ask run frames frame

pub returns-clause-ends : goal.returns-clause-ends
returns-clause-ends c run frames frame = ap (λ (r : Run). outcome_at r.phase) (one_more_run run frames frame)
