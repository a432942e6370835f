use Rattle.std.proofs.Common.{◌+◌, subst, sym}
use Rattle.dory_base.specs.History.{IsChangeOf}
use Rattle.dory_base.specs.Table.{Slots}
use Rattle.dory_base.specs.TableMeaning.{Kept, IsKept}
use Rattle.dory_base.proofs.TableLaws.{kept_next}
use Rattle.dory_table.proofs.table.Table.apply.Goals as goal

pub invariant_of-self-2 : goal.invariant_of-self-2
invariant_of-self-2 c =
    let t : Kept = record { shape = c.self.inside.shape; number = c.self.inside.number; slots = c.self.inside.slots.items } in
    let allowed : IsChangeOf t.shape c.args.entry.change = subst (λ (k : Kept). IsChangeOf k.shape c.args.entry.change) (sym c.self.view_is) c.requires.change in
    let P : Slots → Type 0 = λ slots. IsKept (record { shape = t.shape; number = t.number + 1; slots = slots }) in
    subst P (sym c.in_ok-change.ensures.done) (kept_next t c.args.entry c.self.invariant allowed)
