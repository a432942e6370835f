use Rattle.std.proofs.Common.{arith}
use Rattle.dory_wire.proofs.ReplyLaws.{reply_spelled, reply_only}
use Rattle.dory_wire.proofs.decode.decode_reply.Goals as goal

pub returns-clause-spelled : goal.returns-clause-spelled
returns-clause-spelled c = reply_spelled c.args.message.now c.whole_reply.result (λ i. omega (arith, c.type_inv.message i)) c.whole_reply.ensures

pub returns-clause-only : goal.returns-clause-only
returns-clause-only c = reply_only c.args.message.now c.whole_reply.result c.whole_reply.ensures
