use Rattle.std.proofs.Common.{◌≡◌, take}
use Rattle.dory_base.specs.Table.{manifest_of}
use Rattle.dory_table.proofs.slots.places.Given as goal

abbrev pub invariant-loop-at : goal.invariant-loop-at
invariant-loop-at l = l.all.items ≡ manifest_of (take l.at l.slots)
