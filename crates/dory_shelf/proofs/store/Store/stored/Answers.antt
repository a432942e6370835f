use Rattle.std.proofs.Common.{sym, ap, subst, ℕ, ◌<◌, ◌≡◌, get_or, Some, rules, length, ◌%◌}
use Rattle.dory_shelf.proofs.SlotLaws.{slot_named}
use Rattle.dory_shelf.proofs.store.Store.stored.Goals as goal

pub returns-then-stored-number-clause-shelf : goal.returns-then-stored-number-clause-shelf
returns-then-stored-number-clause-shelf c =
    let some : 0 < c.len.result = subst (λ (n : ℕ). 0 < n) (sym c.len.ensures) c.self.invariant in
    let n : c.len.result ≡ length c.self.inside.slots.items = search rules in
    let at : Some c.in-Some.stored ≡ get_or c.self.inside.slots.items (c.args.number % c.len.result) (Some c.in-Some.stored) = subst (λ x. x ≡ get_or c.self.inside.slots.items (c.args.number % c.len.result) x) c.in-Some.is c.index.ensures in
    slot_named c.args.self.now c.self.inside.slots.items c.in-Some.stored c.args.number c.len.result c.requires (ap (λ x. x.slots) c.self.view_is) n some at
