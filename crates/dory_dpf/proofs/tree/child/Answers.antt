use Rattle.std.proofs.Common.{◌&&◌}
use Rattle.dory_dpf.specs.Tree.{child_under}
use Rattle.dory_dpf.proofs.XorBits.{xor_is}
use Rattle.dory_dpf.proofs.tree.child.Goals as goal

pub returns-then-right : goal.returns-then-right
unfolding child_under
returns-then-right c =
    rw (c.if-right.true, c.corrected.ensures, xor_is c.args.doubled.now.right_bit (c.args.bit && c.args.correction.now.right_bit))

pub returns-else-right : goal.returns-else-right
unfolding child_under
returns-else-right c =
    rw (c.if-right.false, c.corrected-else-right.ensures, xor_is c.args.doubled.now.left_bit (c.args.bit && c.args.correction.now.left_bit))
