use Rattle.std.proofs.Common.{◌≡◌}
use Rattle.std.specs.List.{All}
use Rattle.dory_seal.specs.Epoch.{epoch_of}
use Rattle.dory_bench.proofs.hashing.blocks.Given as goal

abbrev pub invariant-loop-i : goal.invariant-loop-i
invariant-loop-i l = All (λ block. epoch_of block.id ≡ epoch_of l.id) l.blocks
