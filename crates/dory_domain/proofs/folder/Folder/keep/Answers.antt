use Rattle.std.proofs.Common.{◌≡◌, ap, ◌∙◌, sym, subst, rules, Ok}
use Rattle.std.specs.Arc.{arc_value}
use Rattle.dory_base.specs.declared.plan.StagePlan.TheVariants.{New}
use Rattle.dory_base.specs.Log.{Log, look_stage}
use Rattle.dory_base.specs.Step.{log_of, log_after}
use Rattle.dory_base.specs.declared.event.Event.TheVariants.{Staged}
use Rattle.dory_log.specs.Spared.{Spared}
use Rattle.dory_domain.specs.Held.{Held}
use Rattle.dory_domain.proofs.StepHeld.{parts_staged}
use Rattle.dory_domain.proofs.folder.Folder.keep.Goals as goal

pub invariant_of-self-2 : goal.invariant_of-self-2
invariant_of-self-2 c =
    let parts =
    parts_staged c.self.inside.folder.0 c.self.inside.versions.shape c.self.inside.versions.retained c.self.inside.history c.self.inside.log.log c.put_staged.new.self.log c.args.entry.now (arc_value c.in_ok-copy-2.copy) (c.self.invariant.0, c.self.invariant.1)
    (ap (λ (s : Spared). s.log) c.put_staged.ensures ∙ ap (λ (l : Log). log_after l (Staged (arc_value c.in_ok-copy-2.copy))) c.in_ok-reserve.ensures.log)
    (search rules)
    (subst (λ (f : Held). look_stage (log_of f.state) c.args.entry.now ≡ Ok New) (sym c.self.view_is) c.requires.fresh)
    c.requires.range in
    (parts.0, parts.1, c.self.invariant.2)
