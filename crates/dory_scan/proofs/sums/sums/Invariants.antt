use Rattle.std.proofs.Common.{◌≡◌, ◌<◌, ◌^◌, map, take}
use Rattle.std.specs.List.{All}
use Rattle.dory_base.specs.Sum.{sum_of}
use Rattle.dory_scan.proofs.sums.sums.Given as goal

abbrev pub invariant-loop-at : goal.invariant-loop-at
invariant-loop-at g l = record {
  value : l.all.items ≡ map (sum_of (g.T.SlotTable.meaning l.table).slots) (take l.at l.selectors);
  tags : All (λ s. s.tag < 2 ^ 128) l.all.items;
}
