use Rattle.std.proofs.Common.{arith}
use Rattle.dory_wire.proofs.RequestLaws.{request_spelled, request_only}
use Rattle.dory_wire.proofs.decode.decode_request.Goals as goal

pub returns-clause-spelled : goal.returns-clause-spelled
returns-clause-spelled c = request_spelled c.args.message.now c.whole_request.result (λ i. omega (arith, c.type_inv.message i)) c.whole_request.ensures

pub returns-clause-only : goal.returns-clause-only
returns-clause-only c = request_only c.args.message.now c.whole_request.result c.whole_request.ensures
