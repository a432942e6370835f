use Rattle.std.proofs.Common.{◌≡◌, ◌-◌, ◌≤◌, ◌%◌, take, length}
use Rattle.dory_kernel.specs.Parity.{common_ones}
use Rattle.dory_kernel.proofs.Ones.{ones_all}
use Rattle.dory_kernel.proofs.parity.lane_parity.Given as goal

abbrev pub invariant-loop-at : goal.invariant-loop-at
invariant-loop-at l = record {
  within : l.at ≤ length l.row;
  so_far : ones_all l.all % 2 ≡ common_ones (take l.at l.row) (take l.at l.selector) % 2;
}

abbrev pub decreases-loop-at : goal.decreases-loop-at
decreases-loop-at l = length l.row - l.at
