use Rattle.std.proofs.Common.{List, ◌∙◌, ap}
use Rattle.dory_base.specs.Log.{last_of as last_in}
use Rattle.dory_log.specs.declared.own.Own.{Own}
use Rattle.dory_log.specs.Numbered.{Numbered}
use Rattle.dory_log.specs.Own.{own_at, serial_after}
use Rattle.dory_log.proofs.NumberLaws.{own_last}
use Rattle.dory_log.proofs.numbers.Numbers.last_of.Goals as goal

pub returns : goal.returns
returns c =
    let m = c.args.member in
    let own = c.own_list.ensures ∙ ap (λ l. own_at l m) c.deref.ensures.value ∙ c.self.invariant.mine m in
    c.last.ensures ∙ ap (λ (l : List Own). serial_after 0 l) own ∙ own_last c.self.inside.ids.items m 0 1
    ∙ ap (λ (n : Numbered). last_in n.ids m) c.self.view_is
