use Rattle.std.proofs.Common.{◌≡◌, ℕ, ◌-◌, ◌/◌, ◌≤◌, List, Some, length, ◌∙◌, arith}
use mathlib.Core.Path.{ap₂}
use Rattle.dory_dpf.specs.declared.tree.Correction.{Correction}
use Rattle.dory_dpf.specs.declared.tree.Node.{Node}
use Rattle.dory_dpf.specs.Sixteen.{xor_bytes}
use Rattle.dory_dpf.specs.Tree.{corrections_of, walk}
use Rattle.dory_dpf.specs.PointKey.{PointKey, path_of, root_of}
use Rattle.dory_dpf.proofs.KeyLaws.{is_key}
use Rattle.dory_dpf.proofs.Paths.{length-path_of}
use Rattle.dory_dpf.proofs.Pair.{short_pair}
use Rattle.dory_dpf.proofs.generation.gen_short.Goals as goal

short_key : ℕ → ℕ → List ℕ → List Correction → List ℕ → PointKey
short_key depth party seed cs word = record { depth = depth; party = party; seed = seed; corrections = cs; last = Some word }

word_is : (levels position : ℕ) (s t : List ℕ) (cs : List Correction) (u v : Node) (a b w : List ℕ)
    → cs ≡ corrections_of (path_of levels (position / 128)) (root_of 0 s) (root_of 1 t)
    → u ≡ walk (root_of 0 s) cs (path_of levels (position / 128))
    → v ≡ walk (root_of 1 t) cs (path_of levels (position / 128))
    → a ≡ xor_bytes u.seed v.seed → w ≡ xor_bytes a b
    → w ≡ (let path = path_of levels (position / 128) in
    let all = corrections_of path (root_of 0 s) (root_of 1 t) in
    xor_bytes (xor_bytes (walk (root_of 0 s) all path).seed (walk (root_of 1 t) all path).seed) b)
word_is levels position s t cs u v a b w made lead follow ends last = rw (← made, ← lead, ← follow, ← ends) last

pub of_parts-requires : goal.of_parts-requires
of_parts-requires c =
    let depth = c.depth-depth.result in
    let range = c.depth-depth.ensures.range in
    let low : 8 ≤ depth = omega (arith, range.low) in
    let high : depth ≤ 11 = omega (arith, range.high) in
    let sixteen : length c.args.seed0 ≡ 16 = omega arith in
    let whole : length c.xor16-last.result ≡ 16 = omega arith in
    is_key depth 0 c.args.seed0 c.grow-grown.result.corrections (Some c.xor16-last.result)
    (path_of (depth - 7) (c.args.position / 128)) (root_of 0 c.args.seed0) (root_of 1 c.args.seed1)
    low high (omega arith) sixteen c.grow-grown.ensures.corrections (length-path_of (depth - 7) (c.args.position / 128)) whole

pub returns-clause-lead : goal.returns-clause-lead
unfolding short_key
returns-clause-lead c =
    let grown = c.grow-grown.ensures in
    let word = word_is (c.depth-depth.result - 7) c.args.position c.args.seed0 c.args.seed1 _ c.grow-grown.result.lead c.grow-grown.result.follow
    c.xor16-ends.result c.only_bit.result c.xor16-last.result grown.corrections grown.lead grown.follow c.xor16-ends.ensures c.xor16-last.ensures in
    rw (← c.depth-depth.ensures.value, ← c.only_bit.ensures)
    (c.of_parts.ensures ∙ ap₂ (short_key c.depth-depth.result 0 c.args.seed0) grown.corrections word)

pub returns-clause-follow : goal.returns-clause-follow
unfolding short_key
returns-clause-follow c =
    let grown = c.grow-grown.ensures in
    let word = word_is (c.depth-depth.result - 7) c.args.position c.args.seed0 c.args.seed1 _ c.grow-grown.result.lead c.grow-grown.result.follow
    c.xor16-ends.result c.only_bit.result c.xor16-last.result grown.corrections grown.lead grown.follow c.xor16-ends.ensures c.xor16-last.ensures in
    rw (← c.depth-depth.ensures.value, ← c.only_bit.ensures)
    (c.of_parts-2.ensures ∙ ap₂ (short_key c.depth-depth.result 1 c.args.seed1) grown.corrections word)

pub returns-clause-pair : goal.returns-clause-pair
returns-clause-pair c =
    let low : 7 ≤ c.args.shape.depth = omega (arith, c.depth-depth.ensures.range.low) in
    rw (returns-clause-lead c, returns-clause-follow c) (short_pair c.args.shape.depth c.args.position c.args.seed0 c.args.seed1 low c.requires)
