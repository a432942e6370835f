use Rattle.std.proofs.Common.{refl, sym, ap, ◌∙◌}
use Rattle.std.specs.Prelude.{Ok, Err}
use Rattle.dory_base.specs.declared.ids.UpdateId.{UpdateId}
use Rattle.dory_member.specs.declared.outcome.Fault.TheVariants as fault
use Rattle.dory_member.specs.declared.phase.Run.{Run}
use Rattle.dory_member.proofs.Starts.{posted, unfinished, unrefused}
use Rattle.dory_member.proofs.begin.begin_post.Goals as goal

pub returns-in-Some-clause-value : goal.returns-in-Some-clause-value
returns-in-Some-clause-value c = unfinished c.args.state c.in-Some.update _ c.in-Some.is ∙ ap (λ (i : UpdateId). Err (fault.Unfinished i)) (sym (c.id_of-id.ensures c.args.state refl))

pub returns-in-Ok-clause-value : goal.returns-in-Ok-clause-value
returns-in-Ok-clause-value c =
    let free = unrefused c.args.state _ c.in_default.is (sym c.is_last_serial.ensures ∙ c.if-is_last_serial.false) (sym c.is_spent.ensures ∙ c.if-is_spent.false) in
    let run = posted c.args.state c.readied-state.result c.args.seed.now c.doc.result c.args.number c.args.row c.in-Ok.run' c.readied-state.ensures.value c.doc.ensures.same c.in-Ok.ensures.value in
    free ∙ ap (λ (r : Run). Ok r) run
