use Rattle.std.proofs.Common.{◌≡◌, Bool, true, not}
use mathlib.Core.Bool.{beq}
use Rattle.dory_base.specs.Xor.{xor}
use Rattle.dory_dpf.specs.Tree.{correction_under}
use Rattle.dory_dpf.proofs.XorBits.{xor_is}
use Rattle.dory_dpf.proofs.tree.correct.Goals.{then-right, else-right}
use Rattle.dory_dpf.proofs.tree.correct.Goals as goal

three : (a b k : Bool) → not (beq (not (beq a b)) k) ≡ xor (xor a b) k
three a b k = rw (xor_is a b) (xor_is (xor a b) k)

four : (a b k : Bool) → not (beq (not (beq (not (beq a b)) k)) true) ≡ xor (xor (xor a b) k) true
four a b k = rw (three a b k) (xor_is (xor (xor a b) k) true)

pub returns : goal.returns
unfolding correction_under
returns c =
    let d = c.args.lead.now in
    let e = c.args.follow.now in
    let right = c.args.right in
    rw (four d.left_bit e.left_bit right, three d.right_bit e.right_bit right) (
    elim c.if-right.branch [
      | then-right w ↦ rw (w.seed-is, w.xor16-seed.ensures, w.if-right.true)
      | else-right w ↦ rw (w.seed-is, w.xor16-seed-else-right.ensures, w.if-right.false)
    ])
