-- The tree over a row's columns (Boyle, Gilboa and Ishai, 2016): children under a correction, walks, and the corrections
-- of a pair along a path. A path is a list of bits, the highest first; a bit that is true goes to the right.
use Rattle.std.specs.Prelude.{ℕ, Bool, true, false, not, ◌&&◌, if◌then◌else◌, List, [], ◌∷◌}
use Rattle.dory_base.specs.Xor.{xor}
use Rattle.dory_dpf.specs.declared.generator.Doubled.{Doubled}
use Rattle.dory_dpf.specs.declared.tree.Correction.{Correction}
use Rattle.dory_dpf.specs.declared.tree.Node.{Node}
use Rattle.dory_dpf.specs.Block.{doubled_of}
use Rattle.dory_dpf.specs.Sixteen.{xor_bytes}

-- the seed on a side
abbrev pub side_seed : Bool → Doubled → List ℕ
side_seed right d = if right then d.right else d.left

-- the bit on a side
abbrev pub side_bit : Bool → Doubled → Bool
side_bit right d = if right then d.right_bit else d.left_bit

-- a correction's bit for a side
abbrev pub correction_bit : Bool → Correction → Bool
correction_bit right c = if right then c.right_bit else c.left_bit

-- the child on a side of a node with this bit and this doubled seed: the correction counts where the bit is set
unfoldable pub child_under : Bool → Bool → Doubled → Correction → Node
child_under right bit d c = record {
  seed = if bit then xor_bytes (side_seed right d) c.seed else side_seed right d;
  bit = xor (side_bit right d) (bit && correction_bit right c);
}

-- the child of a node on a side, under a correction
abbrev pub child_of : Bool → Node → Correction → Node
child_of right n c = child_under right n.bit (doubled_of n.seed) c

-- the correction of two doubled seeds, where the path goes on at `keep`: it makes the seeds and the bits agree on the
-- side that is left, and keeps the bits apart on the side where the path goes on
unfoldable pub correction_under : Bool → Doubled → Doubled → Correction
correction_under keep d e = record {
  seed = xor_bytes (side_seed (not keep) d) (side_seed (not keep) e);
  left_bit = xor (xor (xor (side_bit false d) (side_bit false e)) keep) true;
  right_bit = xor (xor (side_bit true d) (side_bit true e)) keep;
}

-- the correction of two nodes, where the path goes on at `keep`
abbrev pub correction_of : Bool → Node → Node → Correction
correction_of keep m n = correction_under keep (doubled_of m.seed) (doubled_of n.seed)

-- the corrections along a path, from two nodes on
unfoldable pub corrections_of : List Bool → Node → Node → List Correction
corrections_of [] m n = []
corrections_of (keep ∷ path) m n =
    let c = correction_of keep m n in
    c ∷ corrections_of path (child_of keep m c) (child_of keep n c)

-- the node at the end of a walk, which takes one bit for each correction
unfoldable pub walk : Node → List Correction → List Bool → Node
walk n [] path = n
walk n (c ∷ cs) [] = n
walk n (c ∷ cs) (side ∷ path) = walk (child_of side n c) cs path
