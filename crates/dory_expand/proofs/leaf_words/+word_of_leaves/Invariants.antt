use Rattle.std.proofs.Common.{length}
use Rattle.dory_expand.proofs.leaf_words.+word_of_leaves.Given as goal

abbrev pub decreases-word_of_leaves : goal.decreases-word_of_leaves
decreases-word_of_leaves l = length l.leaves.now
