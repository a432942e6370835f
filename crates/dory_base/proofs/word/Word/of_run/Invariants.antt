use Rattle.std.proofs.Common.{◌≡◌, ◌-◌, ◌++◌, map, take, replicate}
use Rattle.std.specs.Char.{to_ascii_lowercase}
use Rattle.dory_base.proofs.word.Word.of_run.Given as goal

abbrev pub invariant-loop-i : goal.invariant-loop-i
invariant-loop-i l = l.bytes ≡ map to_ascii_lowercase (take l.i l.run) ++ replicate (64 - l.i) 0
