use Rattle.std.proofs.Common.{◌≡◌, ◌^◌, map, take}
use Rattle.dory_dpf.specs.PointKey.{shares_of}
use Rattle.dory_scan.specs.Found.{AreSelectors}
use Rattle.dory_domain.proofs.probes.selectors.Given as goal

abbrev pub invariant-loop-key : goal.invariant-loop-key
invariant-loop-key l = record {
  value : l.all.items ≡ map shares_of (take l.key-index l.key-items);
  wide : AreSelectors (2 ^ l.fn.shape.depth) l.all.items;
}
