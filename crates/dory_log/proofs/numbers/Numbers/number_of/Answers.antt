use Rattle.std.proofs.Common.{List, ◌∙◌, ap, sym, subst, ◌<◌}
use Rattle.std.specs.Prelude.{AllPairs}
use Rattle.dory_base.specs.Log.{number_of as number_in}
use Rattle.dory_log.specs.declared.own.Own.{Own}
use Rattle.dory_log.specs.Numbered.{Numbered}
use Rattle.dory_log.specs.Own.{own_at, number_among}
use Rattle.dory_log.proofs.NumberLaws.{own_number, own_pairs}
use Rattle.dory_log.proofs.numbers.Numbers.number_of.Goals as goal

pub find-requires : goal.find-requires
find-requires c =
    let m = c.args.id.member.0 in
    let own = c.own_list.ensures ∙ ap (λ l. own_at l m) c.deref.ensures.value ∙ c.self.invariant.mine m in
    subst (λ (l : List Own). AllPairs (λ (a b : Own). a.serial < b.serial) l) (sym own) (own_pairs c.self.inside.ids.items m (c.self.invariant.rising m))

pub returns : goal.returns
returns c =
    let m = c.args.id.member.0 in
    let own = c.own_list.ensures ∙ ap (λ l. own_at l m) c.deref.ensures.value ∙ c.self.invariant.mine m in
    c.find.ensures ∙ ap (λ (l : List Own). number_among l c.args.id.serial) own ∙ own_number c.self.inside.ids.items c.args.id 1
    ∙ ap (λ (n : Numbered). number_in n.ids c.args.id) c.self.view_is
