use Rattle.std.proofs.Common.{length}
use Rattle.dory_expand.proofs.depth_first.+word_below.Given as goal

abbrev pub decreases-word_below : goal.decreases-word_below
decreases-word_below l = length l.corrections.now
