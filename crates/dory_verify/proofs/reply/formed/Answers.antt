use Rattle.std.proofs.Common.{arith}
use Rattle.dory_verify.proofs.Places.{body_near, trailing_near}
use Rattle.dory_verify.proofs.reply.formed.Goals as goal

pub overflow_add-result : goal.overflow_add-result
overflow_add-result c =
    omega (arith, body_near c.in-Some.message.now c.in-Err-Body.field-0 c.in-Err-Body.at c.in-Err-Body.ensures.exact c.in-Err-Body.field-0-is, c.in-Some.ensures.length.few)

pub overflow_add-result-in-Err-Trailing : goal.overflow_add-result-in-Err-Trailing
overflow_add-result-in-Err-Trailing c =
    omega (arith, trailing_near c.in-Some.message.now c.in-Err-Trailing.field-0 c.in-Err-Trailing.at c.in-Err-Trailing.ensures.exact c.in-Err-Trailing.field-0-is, c.in-Some.ensures.length.few)
