use Rattle.std.proofs.Common.{◌≡◌, take, flat_map}
use Rattle.dory_expand.specs.Leaves.{leaf_bits}
use Rattle.dory_expand.specs.Shown.{all_bits}
use Rattle.dory_expand.proofs.level_order.short_words.Given as goal

abbrev pub invariant-loop-leaf : goal.invariant-loop-leaf
invariant-loop-leaf l = all_bits l.words.items ≡ flat_map (leaf_bits l.last) (take l.leaf-index l.leaves)
