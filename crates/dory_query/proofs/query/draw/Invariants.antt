use Rattle.std.proofs.Common.{◌≡◌, ◌++◌, drop, length}
use Rattle.std.specs.List.{AllByRecursion}
use Rattle.dory_dpf.specs.PointKey.{IsKeyOf}
use Rattle.dory_query.specs.Drawn.{keys_from}
use Rattle.dory_query.proofs.query.draw.Given as goal

abbrev pub invariant-loop-probe : goal.invariant-loop-probe
invariant-loop-probe l = record {
  lead : l.lead.items ++ keys_from 0 l.shape.depth l.seed l.stream l.probe (drop l.probe l.columns) ≡ keys_from 0 l.shape.depth l.seed l.stream 0 l.columns;
  follow : l.follow.items ++ keys_from 1 l.shape.depth l.seed l.stream l.probe (drop l.probe l.columns) ≡ keys_from 1 l.shape.depth l.seed l.stream 0 l.columns;
  lead_many : length l.lead.items ≡ l.probe;
  follow_many : length l.follow.items ≡ l.probe;
  lead_are : AllByRecursion (IsKeyOf 2 l.shape.depth) l.lead.items;
  follow_are : AllByRecursion (IsKeyOf 2 l.shape.depth) l.follow.items;
}
