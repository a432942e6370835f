use Rattle.std.proofs.Common.{◌≡◌, drop}
use Rattle.dory_dpf.specs.Tree.{walk}
use Rattle.dory_dpf.specs.PointKey.{key_walk_end}
use Rattle.dory_dpf.proofs.Walks.{path_from}
use Rattle.dory_dpf.proofs.evaluation.end_of.Given as goal

abbrev pub invariant-loop-level : goal.invariant-loop-level
invariant-loop-level l = key_walk_end l.fn.key l.fn.place ≡ walk l.node (drop l.level l.fn.key.corrections) (path_from l.levels l.leaf l.level)
