use Rattle.std.proofs.Common.{◌<◌, length, bit_and, get_or, arith}
use Rattle.dory_kernel.proofs.Ones.{ones_xor, common_ones-take_more}
use Rattle.dory_kernel.proofs.parity.folded.Goals as goal

pub loop-i-preserved : goal.loop-i-preserved
loop-i-preserved c =
    let h : c.loop-i.i < length c.args.row.now = omega arith in
    let k : c.loop-i.i < length c.args.selector.now = omega arith in
    omega (arith, common_ones-take_more c.args.row.now c.args.selector.now c.loop-i.i h k, ones_xor c.loop-i.all (bit_and (get_or c.args.row.now c.loop-i.i 0) (get_or c.args.selector.now c.loop-i.i 0)), c.loop-i.invariant)
