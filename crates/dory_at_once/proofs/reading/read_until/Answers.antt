use Rattle.std.proofs.Common.{◌≤◌, ◌∙◌, arith}
use Rattle.dory_at_once.proofs.Growth.{grown_trans, updates_grow}
use Rattle.dory_at_once.proofs.reading.read_until.Goals as goal

pub loop-turn-preserved : goal.loop-turn-preserved
loop-turn-preserved g c =
    let before = c.loop-turn.seat in
    let now = c.length-next.new.seat in
    let more = updates_grow c.args.folder.0 before now c.length-next.ensures.grown in
    let was = c.loop-turn.invariant.1 in
    let is = c.length-next.ensures.value in
    let rise : c.loop-turn.last ≤ c.length-next.result = omega (arith, more, was, is) in
    (c.rises-still.ensures c.loop-turn.invariant.0 rise, is, grown_trans c.args.seat.now before now c.loop-turn.invariant.2 c.length-next.ensures.grown, c.length-next.ensures.names ∙ c.loop-turn.invariant.3)
