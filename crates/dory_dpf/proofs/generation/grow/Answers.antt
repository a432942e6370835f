use Rattle.std.proofs.Common.{◌≡◌, ◌+◌, ◌<◌, ◌≤◌, ◌++◌, List, length, take, sym, ap, ◌∙◌, arith}
use Rattle.std.proofs.Math.ListN.{length-set}
use Rattle.dory_dpf.specs.declared.tree.Correction.{Correction}
use Rattle.dory_dpf.specs.declared.tree.Node.{Node}
use Rattle.dory_dpf.specs.Tree.{child_of, correction_of, corrections_of}
use Rattle.dory_dpf.specs.PointKey.{path_of, root_of}
use Rattle.dory_dpf.proofs.Walks.{side_at, rest_of, rest_step, rest_walk, rest_walk_end, made_step, made_all}
use Rattle.dory_dpf.proofs.generation.grow.Goals as goal

pub loop-level-preserved : goal.loop-level-preserved
loop-level-preserved c =
    let levels = c.args.levels in
    let leaf = c.args.leaf in
    let level = c.loop-level.level in
    let m : Node = c.loop-level.lead in
    let n : Node = c.loop-level.follow in
    let k : Correction = c.correct-correction.result in
    let made : List Correction = c.loop-level.corrections in
    let low : level < levels = omega arith in
    let inside : level < length made = omega (arith, c.requires, c.loop-level.invariant.whole) in
    let is : k ≡ correction_of (side_at levels leaf level) m n =
    rw (← c.goes_right-right.ensures, ← c.double-one.ensures, ← c.double-two.ensures) c.correct-correction.ensures in
    let lead : c.child-lead.result ≡ child_of (side_at levels leaf level) m k =
    rw (← c.goes_right-right.ensures, ← c.double-one.ensures) c.child-lead.ensures in
    let follow : c.child-follow.result ≡ child_of (side_at levels leaf level) n k =
    rw (← c.goes_right-right.ensures, ← c.double-two.ensures) c.child-follow.ensures in
    rw (lead, follow) record {
      whole = length-set made level k ∙ c.loop-level.invariant.whole;
      made =
          made_step made level k
          (rest_of levels leaf (level + 1) (child_of (side_at levels leaf level) m k) (child_of (side_at levels leaf level) n k))
          (corrections_of (path_of levels leaf) (root_of 0 c.args.seed0.now) (root_of 1 c.args.seed1.now))
          inside
          (c.loop-level.invariant.made ∙ ap (λ (r : List Correction). take level made ++ r) (rest_step levels leaf level m n k low is));
      lead = c.loop-level.invariant.lead ∙ rest_walk levels leaf level m n m k low is;
      follow = c.loop-level.invariant.follow ∙ rest_walk levels leaf level m n n k low is;
    }

pub returns-clause-corrections : goal.returns-clause-corrections
returns-clause-corrections c =
    let levels = c.args.levels in
    let leaf = c.args.leaf in
    let level = c.loop-level.level in
    let end : level ≡ levels = omega arith in
    made_all c.loop-level.corrections
    (corrections_of (path_of levels leaf) (root_of 0 c.args.seed0.now) (root_of 1 c.args.seed1.now))
    levels leaf level c.loop-level.lead c.loop-level.follow end c.loop-level.invariant.made

pub returns-clause-lead : goal.returns-clause-lead
returns-clause-lead c =
    let far : c.args.levels ≤ c.loop-level.level = omega arith in
    rw (returns-clause-corrections c) (sym (c.loop-level.invariant.lead
    ∙ rest_walk_end c.args.levels c.args.leaf c.loop-level.level c.loop-level.lead c.loop-level.follow c.loop-level.lead far))

pub returns-clause-follow : goal.returns-clause-follow
returns-clause-follow c =
    let far : c.args.levels ≤ c.loop-level.level = omega arith in
    rw (returns-clause-corrections c) (sym (c.loop-level.invariant.follow
    ∙ rest_walk_end c.args.levels c.args.leaf c.loop-level.level c.loop-level.lead c.loop-level.follow c.loop-level.follow far))
