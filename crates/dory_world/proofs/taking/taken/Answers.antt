use Rattle.dory_world.proofs.Begun.{taken_at}
use Rattle.dory_world.proofs.Sets.{there}
use Rattle.std.proofs.Common.{arith}
use Rattle.dory_world.proofs.taking.taken.Goals as goal

pub returns : goal.returns
returns c =
    let items = c.args.members.now.items in
    taken_at items c.args.m.0 c.index_mut.result.now c.give_up.new.self c.give_up.result (there items c.args.m.0 c.index_mut.result.now (omega (arith, c.args.members.now.ok)) c.index_mut.ensures.value) c.give_up.ensures
