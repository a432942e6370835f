use Rattle.std.proofs.Common.{◌≡◌, ◌++◌, take}
use Rattle.std.specs.List.{flat_map}
use Rattle.dory_dpf.specs.KeyBytes.{bytes_of_key}
use Rattle.dory_wire.proofs.spell.put_keys.Given as goal

abbrev pub invariant-loop-key : goal.invariant-loop-key
invariant-loop-key l = l.out.items ≡ l.fn.out.items ++ flat_map bytes_of_key (take l.key-index l.keys)
