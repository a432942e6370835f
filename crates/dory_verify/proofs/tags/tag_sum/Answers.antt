use Rattle.std.proofs.Common.{◌*◌, ◌+◌, ◌-◌, ◌∙◌, arith}
use Rattle.dory_verify.specs.Tags.{line_tag}
use Rattle.dory_verify.proofs.TagRuns.{run_more}
use Rattle.dory_verify.proofs.tags.tag_sum.Goals as goal

pub loop-run-preserved : goal.loop-run-preserved
loop-run-preserved c =
    let e = run_more (line_tag c.args.keys.now c.args.column) c.loop-run.sum (64 * c.loop-run.run) (64 * (c.loop-run.run + 1)) (64 * c.loop-run.run + 64 - 64 * c.loop-run.run) c.args.places.now c.args.bits.now (omega arith) in
    (c.run_sum-more.ensures.keys, rw (c.xor-sum.ensures, c.run_sum-more.ensures.value) (e ∙ c.loop-run.invariant.1))
