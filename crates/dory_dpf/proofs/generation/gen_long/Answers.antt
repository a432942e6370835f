use Rattle.std.proofs.Common.{◌≡◌, ℕ, ◌≤◌, List, None, length, ap, ◌∙◌, refl, arith}
use Rattle.dory_dpf.specs.declared.tree.Correction.{Correction}
use Rattle.dory_dpf.specs.PointKey.{PointKey, path_of, root_of}
use Rattle.dory_dpf.proofs.KeyLaws.{is_key}
use Rattle.dory_dpf.proofs.Paths.{length-path_of}
use Rattle.dory_dpf.proofs.Pair.{long_pair}
use Rattle.dory_dpf.proofs.generation.gen_long.Goals as goal

long_key : ℕ → ℕ → List ℕ → List Correction → PointKey
long_key depth party seed cs = record { depth = depth; party = party; seed = seed; corrections = cs; last = None }

pub of_parts-requires : goal.of_parts-requires
of_parts-requires c =
    let depth = c.depth-depth.result in
    let range = c.depth-depth.ensures.range in
    let low : 8 ≤ depth = omega (arith, range.low) in
    let high : depth ≤ 11 = omega (arith, range.high) in
    let sixteen : length c.args.seed0 ≡ 16 = omega arith in
    is_key depth 0 c.args.seed0 c.grow-grown.result.corrections None (path_of depth c.args.position) (root_of 0 c.args.seed0) (root_of 1 c.args.seed1)
    low high (omega arith) sixteen c.grow-grown.ensures.corrections (length-path_of depth c.args.position) refl

pub returns-clause-lead : goal.returns-clause-lead
unfolding long_key
returns-clause-lead c =
    rw (← c.depth-depth.ensures.value) (c.of_parts.ensures ∙ ap (long_key c.depth-depth.result 0 c.args.seed0) c.grow-grown.ensures.corrections)

pub returns-clause-follow : goal.returns-clause-follow
unfolding long_key
returns-clause-follow c =
    rw (← c.depth-depth.ensures.value) (c.of_parts-2.ensures ∙ ap (long_key c.depth-depth.result 1 c.args.seed1) c.grow-grown.ensures.corrections)

pub returns-clause-pair : goal.returns-clause-pair
returns-clause-pair c =
    rw (returns-clause-lead c, returns-clause-follow c) (long_pair c.args.shape.depth c.args.position c.args.seed0 c.args.seed1 c.requires)
