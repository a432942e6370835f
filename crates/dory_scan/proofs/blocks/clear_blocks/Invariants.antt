use Rattle.std.proofs.Common.{◌≡◌, replicate}
use Rattle.dory_scan.proofs.blocks.clear_blocks.Given as goal

abbrev pub invariant-loop-made : goal.invariant-loop-made
invariant-loop-made l = l.blocks.items ≡ replicate l.made (replicate l.selectors 0)
