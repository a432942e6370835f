use Rattle.dory_wire.specs.Spelling.{IsRequest}
use Rattle.dory_bench.proofs.stepping.stage_all.Given as goal

abbrev pub invariant-loop-member : goal.invariant-loop-member
invariant-loop-member g l = IsRequest l.request
