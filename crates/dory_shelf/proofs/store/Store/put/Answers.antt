use Rattle.std.proofs.Common.{ap, rules, length, ◌≡◌}
use Rattle.dory_shelf.proofs.SlotLaws.{put_shown}
use Rattle.dory_shelf.proofs.store.Store.put.Goals as goal

pub returns-clause-slots : goal.returns-clause-slots
returns-clause-slots c =
    let n : c.len.result ≡ length c.self.inside.slots.items = search rules in
    put_shown c.self.inside.slots.items c.args.self.now.slots c.args.stored c.len.result (ap (λ x. x.slots) c.self.view_is) n
