use Rattle.std.proofs.Common.{◌≡◌, ◌+◌, ◌<◌, ◌≤◌, List, length, drop, sym, ap, ◌∙◌, arith}
use Rattle.dory_dpf.specs.declared.tree.Correction.{Correction}
use Rattle.dory_dpf.specs.declared.tree.Node.{Node}
use Rattle.dory_dpf.specs.Tree.{child_of, walk}
use Rattle.dory_dpf.proofs.Walks.{path_from, side_at, walk_step, walk_end}
use Rattle.dory_dpf.proofs.evaluation.end_of.Goals as goal

pub loop-level-preserved : goal.loop-level-preserved
loop-level-preserved c =
    let cs : List Correction = c.args.key.now.corrections in
    let levels = c.levels-levels.result in
    let leaf = c.leaf_of-leaf.result in
    let level = c.loop-level.level in
    let node : Node = c.loop-level.node in
    let k : Correction = c.correction.result.now in
    let low : level < levels = omega arith in
    let inside : level < length cs = omega (arith, c.levels-levels.ensures.len) in
    let moved : c.child-node.result ≡ child_of (side_at levels leaf level) node k =
    rw (← c.goes_right-right.ensures, ← c.double-doubled.ensures) c.child-node.ensures in
    c.loop-level.invariant ∙ walk_step cs levels leaf level node k low inside (sym (c.correction.ensures k))
    ∙ sym (ap (λ (v : Node). walk v (drop (level + 1) cs) (path_from levels leaf (level + 1))) moved)

pub returns : goal.returns
returns c =
    let cs : List Correction = c.args.key.now.corrections in
    let far : length cs ≤ c.loop-level.level = omega (arith, c.levels-levels.ensures.len) in
    sym (c.loop-level.invariant ∙ walk_end cs c.loop-level.level (path_from c.levels-levels.result c.leaf_of-leaf.result c.loop-level.level) c.loop-level.node far)
