use Rattle.std.proofs.Common.{arith}
use Rattle.dory_wire.proofs.Ranges.{narrow}
use Rattle.dory_wire.proofs.staged.read_post.Goals as goal

pub bits-requires : goal.bits-requires
bits-requires c = rw (c.columns.ensures.value, c.of-shape.ensures) (omega (arith, narrow c.in_ok-depth.depth c.in_ok-depth.ensures.range.1))
