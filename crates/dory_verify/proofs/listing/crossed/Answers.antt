use Rattle.std.proofs.Common.{ap, ◌∙◌, List, Bool, arith, get_or}
use Rattle.std.specs.Simd.Lanes.{zip2}
use Rattle.dory_base.specs.Xor.{xor}
use Rattle.dory_verify.proofs.Going.{crossed_push, next}
use Rattle.dory_verify.proofs.listing.crossed.Goals as goal

pub loop-probe-preserved : goal.loop-probe-preserved
loop-probe-preserved c =
    rw (next c.loop-probe.probe, c.in_ok-push.ensures.items)
    (crossed_push c.loop-probe.probe c.args.lead.now c.args.follow.now c.index-lead-probe.result c.index-follow-probe.result c.loop-probe.all.items c.xor_with.new.self (omega arith) (omega (arith, c.requires.many))
    (c.xor_with.ensures ∙ ap (λ (b : List Bool). zip2 xor b (get_or c.args.follow.now c.loop-probe.probe c.index-follow-probe.result).bits) c.in_ok-bits.ensures)
    ∙ c.loop-probe.invariant)
