use Rattle.std.proofs.Common.{◌≡◌, ◌*◌, take, map}
use Rattle.dory_expand.specs.Leaves.{node_bit}
use Rattle.dory_expand.specs.Shown.{all_bits}
use Rattle.dory_expand.proofs.level_order.long_words.Given as goal

abbrev pub invariant-loop-i : goal.invariant-loop-i
invariant-loop-i l = all_bits l.words.items ≡ map node_bit (take (64 * l.i) l.leaves)
