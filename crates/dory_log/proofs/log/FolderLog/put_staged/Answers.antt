use Rattle.std.proofs.Common.{◌≡◌, ap, ◌∙◌, sym, subst}
use Rattle.std.specs.Prelude.{List, Option, Some, Ok, slice_set}
use Rattle.std.specs.Arc.{arc_value}
use Rattle.dory_base.specs.declared.entry.Entry.{Entry}
use Rattle.dory_base.specs.declared.plan.StagePlan.TheVariants.{New}
use Rattle.dory_base.specs.Log.{look_stage}
use Rattle.dory_base.specs.Step.{IsLog}
use Rattle.dory_base.proofs.LogLaws.{new_seen, staged_is_log}
use Rattle.dory_log.specs.Spared.{Spared}
use Rattle.dory_log.proofs.log.FolderLog.put_staged.Goals as goal

pub invariant_of-self : goal.invariant_of-self
invariant_of-self c =
    let i = c.self.inside in
    let e = arc_value c.args.entry in
    let new = subst (λ (v : Spared). look_stage v.log e ≡ Ok New) (sym c.self.view_is) c.requires.new in
    let good = staged_is_log (record { role = i.role; shape = i.shape; ids = i.numbers.ids; staged = i.places }) e c.self.invariant
    (new_seen (record { role = i.role; shape = i.shape; ids = i.numbers.ids; staged = i.places }) e new) c.requires.serial in
    let put = c.put.ensures ∙ ap (λ (x : Entry). slice_set i.places x.id.member.0 (Some e)) c.deref.ensures in
    subst (λ (places : List (Option Entry)). IsLog (record { role = i.role; shape = i.shape; ids = i.numbers.ids; staged = places })) (sym put) good
