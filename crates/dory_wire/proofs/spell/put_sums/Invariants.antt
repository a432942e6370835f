use Rattle.std.proofs.Common.{◌≡◌, ◌++◌, take}
use Rattle.std.specs.List.{flat_map}
use Rattle.dory_wire.specs.Spelling.{sum}
use Rattle.dory_wire.proofs.spell.put_sums.Given as goal

abbrev pub invariant-loop-answer : goal.invariant-loop-answer
invariant-loop-answer l = l.out.items ≡ l.fn.out.items ++ flat_map sum (take l.answer-index l.sums)
