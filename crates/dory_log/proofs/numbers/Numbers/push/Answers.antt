use Rattle.std.proofs.Common.{sym, subst}
use Rattle.dory_log.specs.Numbered.{Numbered, MayJoin}
use Rattle.dory_log.proofs.JoinLaws.{joined}
use Rattle.dory_log.proofs.numbers.Numbers.push.Goals as goal

pub invariant_of-self : goal.invariant_of-self
invariant_of-self c =
    let i = c.self.inside in
    let may = subst (λ (n : Numbered). MayJoin n c.args.number c.args.id) (sym c.self.view_is) c.requires in
    joined i.ids c.push_within.new.list i.own.items c.index_mut.result.now c.push_within-2.new.list i.spare c.args.number c.args.id c.self.invariant may
    c.push_within.ensures.items c.push_within.ensures.len c.push_within.ensures.capacity
    c.index_mut.ensures.value c.push_within-2.ensures.items c.push_within-2.ensures.len c.push_within-2.ensures.capacity
