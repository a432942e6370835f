use Rattle.std.proofs.Common.{◌≡◌, drop, flat_map}
use Rattle.dory_dpf.specs.PointKey.{root_of}
use Rattle.dory_expand.specs.Leaves.{leaves_of}
use Rattle.dory_expand.proofs.level_order.leaves_below_root.Given as goal

abbrev pub invariant-loop-correction : goal.invariant-loop-correction
invariant-loop-correction l =
    leaves_of (root_of l.fn.key.party l.fn.key.seed) l.fn.key.corrections
    ≡ flat_map (λ n. leaves_of n (drop l.correction-index l.fn.key.corrections)) l.nodes.items
