use Rattle.std.proofs.Common.{length, nat_le, arith}
use Rattle.dory_world.proofs.Masks.{and_bytes}
use Rattle.dory_world.proofs.lying.is_told.Goals as goal

pub returns : goal.returns
returns c = and_bytes (nat_le (length c.args.bytes.now) 1048580) c.args.bytes.now (λ i. omega (arith, c.type_inv.bytes i))
