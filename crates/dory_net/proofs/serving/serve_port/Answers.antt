use Rattle.std.proofs.Common.{rules, arith, ◌+◌}
use Rattle.dory_net.proofs.InTurn.{none_yet, one_on, too_few, no_more, all_served}
use Rattle.dory_net.proofs.serving.serve_port.Goals as goal

pub loop-init : goal.loop-init
loop-init g c = record { served = none_yet _ _ _ _; later = omega arith }

pub loop-preserved : goal.loop-preserved
loop-preserved g c = record {
  served = one_on _ _ _ _ _ _ _ _ _ c.loop.invariant.served c.in-Ok.ensures.served c.in-Ok.ensures.given;
  later = search rules;
}

pub returns-in-Err-clause-served : goal.returns-in-Err-clause-served
returns-in-Err-clause-served g c = too_few _ _ _ _ _ _ _ _ _ _ _ c.loop.invariant.served c.in-Err.ensures.served c.in-Err.ensures.given c.in-Some.is c.loop-test.true

pub loop-2-init : goal.loop-2-init
loop-2-init g c = record { served = (0, none_yet _ _ _ _); later = omega arith }

pub loop-2-preserved : goal.loop-2-preserved
loop-2-preserved g c = record {
  served = (c.loop-2.invariant.served.0 + 1, one_on _ _ _ _ _ _ _ _ _ c.loop-2.invariant.served.1 c.in-Ok-serve_next.ensures.served c.in-Ok-serve_next.ensures.given);
  later = search rules;
}

pub returns-in-Err-serve_next-clause-served : goal.returns-in-Err-serve_next-clause-served
returns-in-Err-serve_next-clause-served g c = no_more _ _ _ _ _ _ _ _ _ _ c.loop-2.invariant.served.1 c.in-Err-serve_next.ensures.served c.in-Err-serve_next.ensures.given c.in-None.is

pub returns-clause-served : goal.returns-clause-served
returns-clause-served g c = all_served _ _ _ _ _ _ _ _ _ c.loop.invariant.served c.in-Some.is (omega (arith, c.loop.auto.counter-end, c.loop-test.false))
