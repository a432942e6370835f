use Rattle.std.proofs.Common.{List, ap, ◌∙◌, sym, subst, arith}
use Rattle.dory_base.specs.Dims.{Dims, IsDims}
use Rattle.dory_base.specs.Log.{empty_log}
use Rattle.dory_base.specs.declared.entry.Entry.{Entry}
use Rattle.dory_log.specs.Spared.{Spared}
use Rattle.dory_domain.specs.Versions.{AreLast, Last}
use Rattle.dory_domain.proofs.StepHeld.{parts_opened}
use Rattle.dory_domain.proofs.folder.Folder.new.Goals as goal

pub invariant_of-result : goal.invariant_of-result
invariant_of-result c =
    let last : Last = c.in_ok-versions.versions in
    let parts =
    parts_opened c.args.config.folder.0 last.shape last.retained c.new-3.result c.in_ok-log.log.log c.args.role (subst IsDims (sym c.in_ok-versions.ensures.shape) c.columns-columns.ensures.range)
    (omega (arith, c.in_ok-versions.ensures.retained, c.requires.some)) (omega (arith, c.in_ok-versions.ensures.retained, c.requires.few))
    (ap (λ (s : Spared). s.log) c.in_ok-log.ensures ∙ ap (λ (d : Dims). empty_log c.args.role d) (sym c.in_ok-versions.ensures.shape)) c.new-3.ensures in
    (parts.0, parts.1, subst (λ (h : List Entry). AreLast h last) (sym c.new-3.ensures) c.in_ok-versions.ensures.first)
