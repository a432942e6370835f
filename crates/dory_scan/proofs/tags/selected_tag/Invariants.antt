use Rattle.std.proofs.Common.{◌≡◌, take}
use Rattle.dory_base.specs.Table.{live_of}
use Rattle.dory_base.proofs.Selected.{tag_of}
use Rattle.dory_scan.proofs.tags.selected_tag.Given as goal

abbrev pub invariant-loop-column : goal.invariant-loop-column
invariant-loop-column g l = l.tag ≡ tag_of (take l.column l.selector) (live_of (g.T.SlotTable.meaning l.table).slots)
