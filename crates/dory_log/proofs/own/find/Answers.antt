use Rattle.std.proofs.Common.{sym, arith}
use Rattle.dory_log.proofs.OwnLaws.{found_there, found_nowhere}
use Rattle.dory_log.proofs.own.find.Goals as goal
use Rattle.dory_log.proofs.own.find.Goals.{else-low-own-via-then-low-own+else-own-low, else-low-own-via-else-low-own}

pub returns-then-own-low : goal.returns-then-own-low
returns-then-own-low c = sym (found_there c.args.own.now c.loop-low.low c.loop-low.high c.args.serial c.loop-low.invariant c.if-low-own.true c.if-own-low.true)

pub returns-else-low-own : goal.returns-else-low-own
returns-else-low-own c =
    sym (found_nowhere c.args.own.now c.loop-low.low c.loop-low.high c.args.serial c.requires c.loop-low.invariant c.loop-low-test.false
    (elim c.else-low-own.branch [
      | else-low-own-via-then-low-own+else-own-low w ↦ λ lt. w.if-own-low.false
      | else-low-own-via-else-low-own w ↦ λ lt e. omega (arith, w.if-low-own.false, lt)
    ]))
