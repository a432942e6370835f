use Rattle.std.proofs.Common.{◌≡◌, ◌++◌, map, take, drop}
use Rattle.dory_base.specs.Table.{emptied}
use Rattle.dory_table.proofs.slots.clear.Given as goal

abbrev pub invariant-loop-slot : goal.invariant-loop-slot
invariant-loop-slot l = l.slot-items ≡ map (emptied l.doc) (take l.slot-index l.initial.slot-items) ++ drop l.slot-index l.initial.slot-items
