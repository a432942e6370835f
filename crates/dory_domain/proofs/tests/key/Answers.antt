use Rattle.std.proofs.Common.{◌≤◌, ◌^◌, arith}
use Rattle.std.proofs.Math.Nat.{pow-le-pow_right}
use Rattle.dory_domain.proofs.tests.key.Goals as goal

pub gen_short-requires : goal.gen_short-requires
gen_short-requires c =
    let most : 2 ^ 8 ≤ 2 ^ c.args.shape.depth = pow-le-pow_right (omega arith) c.requires.low in
    omega (arith, most, c.ranges.column.fits)

pub gen_long-requires : goal.gen_long-requires
gen_long-requires c =
    let most : 2 ^ 8 ≤ 2 ^ c.args.shape.depth = pow-le-pow_right (omega arith) c.requires.low in
    omega (arith, most, c.ranges.column.fits)
