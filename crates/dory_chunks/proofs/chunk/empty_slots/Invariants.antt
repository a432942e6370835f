use Rattle.std.proofs.Common.{◌≡◌, replicate, None}
use Rattle.dory_chunks.proofs.chunk.empty_slots.Given as goal

abbrev pub invariant-loop-at : goal.invariant-loop-at
invariant-loop-at g l = l.all.items ≡ replicate l.at None
