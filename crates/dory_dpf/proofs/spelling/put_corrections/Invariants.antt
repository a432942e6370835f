use Rattle.std.proofs.Common.{◌≡◌, ◌++◌, take}
use Rattle.std.specs.List.{flat_map}
use Rattle.dory_dpf.specs.KeyBytes.{correction_bytes}
use Rattle.dory_dpf.proofs.spelling.put_corrections.Given as goal

abbrev pub invariant-loop-correction : goal.invariant-loop-correction
invariant-loop-correction l = l.out.items ≡ l.fn.out.items ++ flat_map correction_bytes (take l.correction-index l.corrections)
