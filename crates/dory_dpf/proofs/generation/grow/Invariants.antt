use Rattle.std.proofs.Common.{◌≡◌, ◌++◌, List, length, take}
use Rattle.dory_dpf.specs.declared.tree.Correction.{Correction}
use Rattle.dory_dpf.specs.declared.tree.Node.{Node}
use Rattle.dory_dpf.specs.Tree.{corrections_of, walk}
use Rattle.dory_dpf.specs.PointKey.{path_of, root_of}
use Rattle.dory_dpf.proofs.Walks.{path_from, rest_of}
use Rattle.dory_dpf.proofs.generation.grow.Given as goal

abbrev pub invariant-loop-level : goal.invariant-loop-level
invariant-loop-level l =
    let m : Node = root_of 0 l.fn.seed0 in
    let n : Node = root_of 1 l.fn.seed1 in
    let path = path_of l.fn.levels l.fn.leaf in
    let all : List Correction = corrections_of path m n in
    record {
      whole : length l.corrections ≡ 11;
      made : all ≡ take l.level l.corrections ++ rest_of l.fn.levels l.fn.leaf l.level l.lead l.follow;
      lead : walk m all path ≡ walk l.lead (rest_of l.fn.levels l.fn.leaf l.level l.lead l.follow) (path_from l.fn.levels l.fn.leaf l.level);
      follow : walk n all path ≡ walk l.follow (rest_of l.fn.levels l.fn.leaf l.level l.lead l.follow) (path_from l.fn.levels l.fn.leaf l.level);
    }
