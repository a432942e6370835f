use Rattle.std.proofs.Common.{◌<◌, ◌≤◌, false, List, [], length}
use Rattle.dory_dpf.specs.declared.tree.Correction.{Correction}
use Rattle.dory_dpf.specs.PointKey.{root_of}
use Rattle.dory_expand.specs.Leaves.{leaves_of}
use Rattle.dory_expand.proofs.Walked.{level_step, level_end}
use Rattle.dory_expand.proofs.level_order.leaves_below_root.Goals as goal

zero : Correction
zero = record { seed = []; left_bit = false; right_bit = false }

pub loop-correction-preserved : goal.loop-correction-preserved
unfolding zero
loop-correction-preserved c =
    let cs : List Correction = c.args.key.now.corrections in
    let same = c.corrections-correction-items.ensures.value in
    let inside : c.loop-correction.correction-index < length cs = rw (← same) c.loop-correction-test.true in
    level_step (leaves_of (root_of c.args.key.now.party c.args.key.now.seed) cs) cs c.loop-correction.correction-index
    c.loop-correction.nodes.items c.in_ok-nodes.nodes.items zero inside c.loop-correction.invariant (rw (← same, ← c.deref.ensures.value) c.in_ok-nodes.ensures)

pub returns : goal.returns
returns c =
    let cs : List Correction = c.args.key.now.corrections in
    let same = c.corrections-correction-items.ensures.value in
    let far : length cs ≤ c.loop-correction.correction-index = rw (← same) c.loop-correction-test.false in
    level_end (leaves_of (root_of c.args.key.now.party c.args.key.now.seed) cs) cs c.loop-correction.correction-index c.loop-correction.nodes.items far c.loop-correction.invariant
