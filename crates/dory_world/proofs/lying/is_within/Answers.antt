use Rattle.std.proofs.Common.{◌+◌, length, nat_le, arith}
use Rattle.dory_world.proofs.Masks.{and_bytes}
use Rattle.dory_world.proofs.lying.is_within.Goals as goal

pub returns : goal.returns
returns c = and_bytes (nat_le (c.args.at + length c.args.mask.now) (length c.args.frame.now)) c.args.mask.now (λ i. omega (arith, c.type_inv.mask i))
