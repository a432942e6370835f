use Rattle.std.proofs.Common.{ℕ, ◌+◌, ◌-◌, ◌*◌, List, take, drop, arith}
use Rattle.dory_seal.proofs.Tagged.{first_bad_of_run, run_is_right}
use Rattle.dory_seal.proofs.Written.{part_at}
use Rattle.dory_seal.proofs.audit.first_bad.Goals as goal

pub returns-in-Some-clause-some : goal.returns-in-Some-clause-some
returns-in-Some-clause-some c =
    let from : ℕ = 64 * c.loop-run.run in
    let value = c.len-run-end.ensures.value in
    let part : List ℕ = take (from + 64 - from) (drop from c.args.tags.now) in
    first_bad_of_run c.args.keys.now.keys c.args.doc c.args.id c.args.row.now c.args.tags.now part c.tags_from-right.result from c.in-Some.i
    (omega arith) (λ k near. part_at c.args.tags.now from (from + 64 - from) k (omega arith)) c.tags_from-right.ensures c.loop-run.invariant c.in-Some.ensures.some

pub loop-run-preserved : goal.loop-run-preserved
loop-run-preserved c j low =
    let from : ℕ = 64 * c.loop-run.run in
    let part : List ℕ = take (from + 64 - from) (drop from c.args.tags.now) in
    run_is_right c.args.keys.now.keys c.args.doc c.args.id c.args.row.now c.args.tags.now part c.tags_from-right.result from
    (λ k near. part_at c.args.tags.now from (from + 64 - from) k (omega arith)) c.tags_from-right.ensures c.loop-run.invariant c.in_default.ensures.none j (omega arith)
