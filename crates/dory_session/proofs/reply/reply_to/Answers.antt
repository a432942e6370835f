use Rattle.std.proofs.Common.{rules}
use Rattle.dory_session.proofs.Answering.{part_written}
use Rattle.dory_session.proofs.reply.reply_to.Goals as goal

pub returns-clause-replies : goal.returns-clause-replies
returns-clause-replies g c =
    let p = part_written _ _ c.deref.result.now c.in-Err-write_all.ensures.less in
    (p.0, p.1, (c.deref.result.now, search rules, p.2))
