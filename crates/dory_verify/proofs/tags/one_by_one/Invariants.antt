use Rattle.std.proofs.Common.{◌≡◌, drop}
use Rattle.std.specs.Prelude.{bit_xor}
use Rattle.dory_verify.specs.Tags.{tag_sum}
use Rattle.dory_verify.proofs.tags.one_by_one.Given as goal

abbrev pub invariant-loop-i : goal.invariant-loop-i
invariant-loop-i l = (l.recent.keys ≡ l.keys) × (bit_xor l.sum (tag_sum l.keys l.column (drop l.i l.places) (drop l.i (drop l.from l.bits))) ≡ tag_sum l.keys l.column l.places (drop l.from l.bits))
