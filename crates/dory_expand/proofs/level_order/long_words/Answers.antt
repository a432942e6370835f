use Rattle.std.proofs.Common.{◌+◌, ◌*◌, ◌≤◌, length, ap, ◌∙◌, arith}
use Rattle.dory_expand.specs.Shown.{all_bits}
use Rattle.dory_expand.proofs.Filled.{word_step}
use Rattle.dory_expand.proofs.level_order.long_words.Goals as goal

pub loop-i-preserved : goal.loop-i-preserved
loop-i-preserved c =
    let inside : 64 * c.loop-i.i + 64 ≤ length c.args.leaves.now = omega arith in
    ap all_bits c.in_ok-push.ensures.items
    ∙ word_step c.loop-i.words.items c.args.leaves.now c.loop-i.i c.word_of_leaves.result inside c.word_of_leaves.ensures c.loop-i.invariant
