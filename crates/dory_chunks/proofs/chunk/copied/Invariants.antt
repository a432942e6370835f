use Rattle.std.proofs.Common.{◌≡◌, map, take}
use Rattle.std.specs.Option.{option_map}
use Rattle.std.specs.Arc.{arc_value}
use Rattle.dory_chunks.proofs.chunk.copied.Given as goal

abbrev pub invariant-loop-slot : goal.invariant-loop-slot
invariant-loop-slot l = map (option_map arc_value) l.all.items ≡ map (option_map arc_value) (take l.slot-index l.slots.items)
