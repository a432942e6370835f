use Rattle.std.proofs.Common.{◌≡◌}
use Rattle.std.specs.List.{All}
use Rattle.dory_seal.specs.Epoch.{epoch_of}
use Rattle.dory_bench.proofs.hashing.cells.Given as goal

abbrev pub invariant-loop-i : goal.invariant-loop-i
invariant-loop-i l = All (λ cell. epoch_of cell.id ≡ epoch_of l.id) l.cells
