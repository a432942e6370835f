use Rattle.std.proofs.Common.{◌≡◌, take, flat_map}
use Rattle.dory_expand.specs.Leaves.{children_of}
use Rattle.dory_expand.proofs.level_order.next_level.Given as goal

abbrev pub invariant-loop-node : goal.invariant-loop-node
invariant-loop-node l = l.next.items ≡ flat_map (children_of l.correction) (take l.node-index l.nodes)
