use Rattle.std.proofs.Common.{◌≡◌, length, arith}
use Rattle.dory_base.proofs.Packing.{zip2_same}
use Rattle.dory_base.proofs.bits.xor_words.Goals as goal

pub returns : goal.returns
returns c =
    let p = c.args.into.now.ok in
    let q = c.args.from.now.ok in
    let e : length c.args.into.now.items ≡ length c.args.from.now.items = omega (arith, p.0, q.0) in
    zip2_same c.loop-i.into.items c.args.into.now.items c.args.from.now.items e c.loop-i.invariant.long (λ k near. c.loop-i.invariant.done k (omega (arith, p.0, q.0)))
