use Rattle.std.proofs.Common.{◌≡◌, ◌+◌, ◌%◌, take, count_ones}
use Rattle.dory_kernel.specs.Parity.{common_ones}
use Rattle.dory_kernel.proofs.parity.folded.Given as goal

-- so far
abbrev pub invariant-loop-i : goal.invariant-loop-i
invariant-loop-i l = count_ones l.all % 2 ≡ (count_ones l.start + common_ones (take l.i l.row) (take l.i l.selector)) % 2
