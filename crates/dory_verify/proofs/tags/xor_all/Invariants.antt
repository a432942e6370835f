use Rattle.std.proofs.Common.{◌≡◌, drop}
use Rattle.std.specs.Prelude.{bit_xor}
use Rattle.dory_base.specs.Sum.{xor_all}
use Rattle.dory_verify.proofs.tags.xor_all.Given as goal

abbrev pub invariant-loop-i : goal.invariant-loop-i
invariant-loop-i l = bit_xor l.sum (xor_all (drop l.i l.tags)) ≡ xor_all l.tags
