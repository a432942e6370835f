use Rattle.std.proofs.lemmas.Result.{err_from_is_err_and}
use Rattle.dory_fields.proofs.Many.{many_go, many_fail, many_done}
use Rattle.dory_wire.specs.Reading.{sum_at}
use Rattle.dory_wire.proofs.answered.read_sums.Goals as goal

pub returns-in_err-sum : goal.returns-in_err-sum
returns-in_err-sum c =
    let p = err_from_is_err_and c.from_residual-in_err-sum.result c.from_residual-in_err-sum.ensures.1 in
    rw (p.1, p.2) (many_fail (sum_at c.args.lines) c.in_err-sum.field-0.0 c.loop.sums.items c.args.count c.loop.counter c.args.reader.now c.loop.reader c.read_sum.new.reader c.loop-test.true c.in_err-sum.ensures c.loop.invariant)

pub loop-preserved : goal.loop-preserved
loop-preserved c =
    rw c.in_ok-push.ensures.items (many_go (sum_at c.args.lines) c.loop.sums.items c.args.count c.loop.counter c.args.reader.now c.loop.reader c.read_sum.new.reader c.in_ok-sum.sum c.loop-test.true c.in_ok-sum.ensures c.loop.invariant)

pub returns : goal.returns
returns c = many_done (sum_at c.args.lines) c.loop.sums.items c.args.count c.loop.counter c.args.reader.now c.loop.reader c.loop-test.false c.loop.invariant
