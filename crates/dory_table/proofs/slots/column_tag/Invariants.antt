use Rattle.std.proofs.Common.{◌≡◌, take}
use Rattle.dory_base.specs.TableMeaning.{column_tag_of}
use Rattle.dory_table.proofs.slots.column_tag.Given as goal

abbrev pub invariant-loop-slot : goal.invariant-loop-slot
invariant-loop-slot l = l.sum ≡ column_tag_of (take l.slot-index l.slots) l.column
