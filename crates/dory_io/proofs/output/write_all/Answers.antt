use Rattle.std.proofs.Common.{rules, arith, length, drop, ◌-◌, take_all, length-drop}
use Rattle.dory_io.proofs.WriteLemmas.{appends_more}
use Rattle.dory_io.proofs.output.write_all.Goals as goal

pub loop-at-preserved : goal.loop-at-preserved
loop-at-preserved g c = record {
  part = appends_more _ _ _ _ c.args.bytes.now _ c.loop-at.at c.in_ok-at.field-0 (take_all (length c.args.bytes.now - c.loop-at.at) (drop c.loop-at.at c.args.bytes.now) (omega (arith, length-drop c.loop-at.at c.args.bytes.now))) c.loop-at.invariant.part c.in_ok-at.ensures.bytes;
  within = search rules;
  later = search rules;
}
