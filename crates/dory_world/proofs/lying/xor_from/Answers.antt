use Rattle.std.proofs.Common.{sym}
use Rattle.dory_world.proofs.Masks.{bent_nothing, bent_more}
use Rattle.dory_world.proofs.lying.xor_from.Goals as goal

pub loop-i-init : goal.loop-i-init
loop-i-init c = sym (bent_nothing c.args.at c.args.bytes.now)

pub loop-i-preserved : goal.loop-i-preserved
loop-i-preserved c = bent_more c.args.at c.loop-i.i c.args.mask.now c.args.bytes.now c.loop-i.bytes c.loop-i-test.true c.requires c.loop-i.invariant
