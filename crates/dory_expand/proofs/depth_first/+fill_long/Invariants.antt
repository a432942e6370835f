use Rattle.std.proofs.Common.{length}
use Rattle.dory_expand.proofs.depth_first.+fill_long.Given as goal

abbrev pub decreases-fill_long : goal.decreases-fill_long
decreases-fill_long l = length l.corrections.now
