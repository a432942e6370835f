use Rattle.std.proofs.Common.{length}
use Rattle.dory_expand.proofs.depth_first.+fill_short.Given as goal

abbrev pub decreases-fill_short : goal.decreases-fill_short
decreases-fill_short l = length l.corrections.now
