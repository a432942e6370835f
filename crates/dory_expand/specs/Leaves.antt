-- The ends of all walks of a key, from left to right.
use Rattle.std.specs.Prelude.{ℕ, Bool, true, false, List, [], ◌∷◌, ◌++◌, map, Some}
use Rattle.std.specs.List.{range_with_len}
use Rattle.dory_dpf.specs.declared.tree.Correction.{Correction}
use Rattle.dory_dpf.specs.declared.tree.Node.{Node}
use Rattle.dory_dpf.specs.Tree.{child_of}
use Rattle.dory_dpf.specs.PointKey.{share_at}

-- the two children of a node, the left one first
abbrev pub children_of : Correction → Node → List Node
children_of c n = child_of false n c ∷ child_of true n c ∷ []

-- the leaves below a node, with a correction for each level below it
unfoldable pub leaves_of : Node → List Correction → List Node
leaves_of n [] = n ∷ []
leaves_of n (c ∷ cs) = leaves_of (child_of false n c) cs ++ leaves_of (child_of true n c) cs

-- the control bit, which is a leaf's share in form 1
abbrev pub node_bit : Node → Bool
node_bit n = n.bit

-- the shares at a leaf's 128 places, under a last word
unfoldable pub leaf_bits : List ℕ → Node → List Bool
leaf_bits word leaf = map (share_at (Some word) leaf) (range_with_len 0 128)
