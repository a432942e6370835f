use Rattle.std.proofs.Common.{◌≡◌, take}
use Rattle.dory_run.specs.Happening.{bent}
use Rattle.dory_world.proofs.lying.xor_from.Given as goal

abbrev pub invariant-loop-i : goal.invariant-loop-i
invariant-loop-i l = l.bytes ≡ bent l.at (take l.i l.mask) l.initial.bytes
