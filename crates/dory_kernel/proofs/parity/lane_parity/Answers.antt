use Rattle.std.proofs.Common.{ℕ, ◌+◌, ◌≤◌, length, arith, ap, eqb}
use Rattle.dory_kernel.proofs.Ones.{ones_all_more, lanes_done}
use Rattle.dory_kernel.proofs.parity.lane_parity.Goals as goal

pub loop-at-preserved : goal.loop-at-preserved
loop-at-preserved c =
    let h : c.loop-at.at + 8 ≤ length c.args.row.now = omega arith in
    let k : c.loop-at.at + 8 ≤ length c.args.selector.now = omega arith in
    record {
      within = h;
      so_far = rw (c.xor_lanes-all.ensures, c.both_at-both.ensures) (ones_all_more c.loop-at.all c.args.row.now c.args.selector.now c.loop-at.at 8 c.loop-at.auto.all.0 h k c.loop-at.invariant.so_far);
    }

pub returns : goal.returns
returns c =
    ap (λ (x : ℕ). eqb x 1)
    (lanes_done c.args.row.now c.args.selector.now c.loop-at.all c.loop-at.at c.folded-rest.result c.xor_of.result c.loop-at.invariant.within c.requires c.loop-at.invariant.so_far c.xor_of.ensures c.folded-rest.ensures)
