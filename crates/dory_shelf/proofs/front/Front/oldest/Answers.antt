use Rattle.std.proofs.Common.{arith}
use Rattle.dory_shelf.proofs.Counting.{few_of}
use Rattle.dory_shelf.proofs.front.Front.oldest.Goals as goal

pub overflow_add-self-inside : goal.overflow_add-self-inside
overflow_add-self-inside c = omega (arith, (few_of _ _ _ c.self.invariant).1)
