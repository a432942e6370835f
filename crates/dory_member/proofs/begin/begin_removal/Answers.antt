use Rattle.std.proofs.Common.{refl, sym, ap, ◌∙◌}
use Rattle.std.specs.Prelude.{Err}
use Rattle.dory_base.specs.declared.ids.UpdateId.{UpdateId}
use Rattle.dory_member.specs.declared.outcome.Fault.TheVariants as fault
use Rattle.dory_member.proofs.Starts.{unfinished}
use Rattle.dory_member.proofs.begin.begin_removal.Goals as goal

pub returns-in-Some-clause-value : goal.returns-in-Some-clause-value
returns-in-Some-clause-value c = unfinished c.args.state c.in-Some.update _ c.in-Some.is ∙ ap (λ (i : UpdateId). Err (fault.Unfinished i)) (sym (c.id_of-id.ensures c.args.state refl))
