use Rattle.std.proofs.Common.{◌≡◌, ℕ, ◌<◌, ◌∙◌, List, length, take, ap, arith}
use Rattle.std.proofs.Math.ListN.{length-set}
use Rattle.std.proofs.lemmas.List.{take_more_set}
use Rattle.std.proofs.lemmas.Result.{err_from_is_err_and}
use Rattle.dory_dpf.specs.declared.tree.Correction.{Correction}
use Rattle.dory_fields.proofs.Many.{many_go, many_fail, many_done}
use Rattle.dory_dpf.specs.KeyBytes.{correction_at}
use Rattle.dory_dpf.proofs.Spelled.{read_as}
use Rattle.dory_dpf.proofs.reading.read_corrections.Goals as goal

pub returns-in_err-correction-clause-value : goal.returns-in_err-correction-clause-value
returns-in_err-correction-clause-value c =
    let p = err_from_is_err_and c.from_residual.result c.from_residual.ensures.1 in
    let below : c.loop-level.level < c.args.levels = omega arith in
    rw (p.1, p.2) (many_fail correction_at c.in_err-correction.field-0.0 (take c.loop-level.level c.loop-level.corrections) c.args.levels c.loop-level.level c.args.reader.now c.loop-level.reader c.read_correction.new.reader below c.in_err-correction.ensures.value c.loop-level.invariant.read)

pub loop-level-preserved : goal.loop-level-preserved
loop-level-preserved c =
    let made : List Correction = c.loop-level.corrections in
    let level = c.loop-level.level in
    let below : level < c.args.levels = omega arith in
    let inside : level < length made = omega (arith, c.requires, c.loop-level.invariant.whole) in
    record {
      whole = length-set made level c.in_ok-correction.correction ∙ c.loop-level.invariant.whole;
      read = rw (take_more_set made level c.in_ok-correction.correction inside) (many_go correction_at (take level made) c.args.levels level c.args.reader.now c.loop-level.reader c.read_correction.new.reader c.in_ok-correction.correction below c.in_ok-correction.ensures.value c.loop-level.invariant.read);
    }

pub returns-clause-value : goal.returns-clause-value
returns-clause-value c =
    let done : c.loop-level.level ≡ c.args.levels = omega arith in
    let all = many_done correction_at (take c.loop-level.level c.loop-level.corrections) c.args.levels c.loop-level.level c.args.reader.now c.loop-level.reader (omega (arith, done)) c.loop-level.invariant.read in
    (all.0, all.1 ∙ ap (λ (k : ℕ). read_as (take k c.loop-level.corrections) c.loop-level.reader.rest) done)
