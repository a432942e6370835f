use Rattle.std.proofs.lemmas.Result.{err_from_is_err_and}
use Rattle.dory_wire.proofs.Loops.{lines_go, lines_fail, lines_done}
use Rattle.dory_wire.proofs.Lines.{lines_increase}
use Rattle.dory_wire.proofs.answered.read_lines.Goals as goal

pub returns-in_err-place-clause-value : goal.returns-in_err-place-clause-value
returns-in_err-place-clause-value c =
    let p = err_from_is_err_and c.from_residual-in_err-place.result c.from_residual-in_err-place.ensures.1 in
    rw (p.1, p.2) (lines_fail c.in_err-place.field-0.0 c.loop.places.items c.args.count c.loop.counter c.loop.least c.args.reader.now c.loop.reader c.read_line.new.reader c.loop-test.true c.in_err-place.ensures.value c.loop.invariant)

pub loop-preserved : goal.loop-preserved
loop-preserved c =
    rw c.in_ok-push.ensures.items (lines_go c.loop.places.items c.args.count c.loop.counter c.loop.least c.args.reader.now c.loop.reader c.read_line.new.reader c.in_ok-place.place c.loop-test.true c.in_ok-place.ensures.value c.loop.invariant)

pub returns-clause-value : goal.returns-clause-value
returns-clause-value c = lines_done c.loop.places.items c.args.count c.loop.counter c.loop.least c.args.reader.now c.loop.reader c.loop-test.false c.loop.invariant

pub returns-clause-rising : goal.returns-clause-rising
returns-clause-rising c =
    lines_increase c.args.count 0 c.args.reader.now.total c.args.reader.now.rest (c.loop.places.items, c.loop.reader.rest) (returns-clause-value c).1
