use Rattle.std.proofs.Common.{◌-◌}
use Rattle.dory_log.proofs.OwnLaws.{Halves}
use Rattle.dory_log.proofs.own.find.Given as goal

abbrev pub invariant-loop-low : goal.invariant-loop-low
invariant-loop-low l = Halves l.own l.low l.high l.serial

abbrev pub decreases-loop-low : goal.decreases-loop-low
decreases-loop-low l = l.high - l.low
