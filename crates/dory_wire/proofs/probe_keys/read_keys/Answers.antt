use Rattle.std.proofs.lemmas.Result.{err_from_is_err_and}
use Rattle.dory_fields.proofs.Many.{many_go, many_fail, many_done}
use Rattle.dory_dpf.specs.KeyBytes.{key_at}
use Rattle.dory_wire.proofs.probe_keys.read_keys.Goals as goal

pub returns-in_err-key : goal.returns-in_err-key
returns-in_err-key c =
    let p = err_from_is_err_and c.from_residual-in_err-key.result c.from_residual-in_err-key.ensures.1 in
    rw (p.1, p.2) (many_fail (key_at c.args.form c.args.depth) c.in_err-key.field-0.0 c.loop.keys.items c.args.count c.loop.counter c.args.reader.now c.loop.reader c.read.new.reader c.loop-test.true c.in_err-key.ensures.value c.loop.invariant)

pub loop-preserved : goal.loop-preserved
loop-preserved c =
    rw c.in_ok-push.ensures.items (many_go (key_at c.args.form c.args.depth) c.loop.keys.items c.args.count c.loop.counter c.args.reader.now c.loop.reader c.read.new.reader c.in_ok-key.key c.loop-test.true c.in_ok-key.ensures.value c.loop.invariant)

pub returns : goal.returns
returns c = many_done (key_at c.args.form c.args.depth) c.loop.keys.items c.args.count c.loop.counter c.args.reader.now c.loop.reader c.loop-test.false c.loop.invariant
