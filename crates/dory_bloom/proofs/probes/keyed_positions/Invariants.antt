use Rattle.std.proofs.Common.{◌≡◌, ◌-◌, ◌++◌, map, replicate}
use Rattle.std.specs.List.{range_with_len}
use Rattle.dory_bloom.specs.Positions.{column_at}
use Rattle.dory_bloom.proofs.probes.keyed_positions.Given as goal

abbrev pub invariant-loop-p : goal.invariant-loop-p
invariant-loop-p l = l.into ≡ map (column_at l.tag l.shape.depth) (range_with_len 0 l.p) ++ replicate (8 - l.p) 0
