use Rattle.std.proofs.Common.{◌≡◌, ◌*◌, drop}
use Rattle.std.specs.Prelude.{bit_xor}
use Rattle.dory_verify.specs.Tags.{tag_sum}
use Rattle.dory_verify.proofs.tags.tag_sum.Given as goal

abbrev pub invariant-loop-run : goal.invariant-loop-run
invariant-loop-run l = (l.recent.keys ≡ l.keys) × (bit_xor l.sum (tag_sum l.keys l.column (drop (64 * l.run) l.places) (drop (64 * l.run) l.bits)) ≡ tag_sum l.keys l.column l.places l.bits)
