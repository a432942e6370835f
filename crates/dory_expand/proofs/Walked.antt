-- The leaves from left to right are the ends of the walks to the places in order.
use Rattle.std.proofs.Common.{◌≡◌, ℕ, zero, suc, ◌+◌, ◌-◌, ◌*◌, ◌/◌, ◌%◌, ◌^◌, ◌<◌, ◌≤◌, ◌==◌, inl, inr, Bool, true, false, List, [], ◌∷◌, ◌++◌, map, flat_map, length, get_or, take, drop, Option, None, Some, refl, sym, ap, ◌∙◌, ◌&&◌, pow-add, arith}
use Rattle.std.proofs.Math.Nat.{pow-succ'}
use mathlib.Core.Path.{ap₂}
use Rattle.std.specs.Int.{bit_at}
use Rattle.std.proofs.Math.ListN.{get_or-append}
use Rattle.std.proofs.Math.Seq.{drop-cons}
use Rattle.std.proofs.lemmas.Bool.{cases_lt, eqb-false}
use Rattle.std.proofs.lemmas.List.{get_or-append_right, length-append, length-drop, drop_all, append_assoc, get_or-map, length-map, take_all}
use Rattle.std.proofs.lemmas.List.FromFn.{fill_by_all, length-map-range_with_len, get_or-map-range_with_len}
use Rattle.std.proofs.lemmas.Nat.Bits.{bit_at_above, bit_at_cat_low, bit_at_cat_high}
use Rattle.dory_dpf.specs.declared.tree.Correction.{Correction}
use Rattle.dory_dpf.specs.declared.tree.Node.{Node}
use Rattle.dory_dpf.specs.Tree.{child_of, walk}
use Rattle.dory_base.specs.Xor.{xor}
use Rattle.dory_dpf.specs.Sixteen.{byte_bit}
use Rattle.dory_dpf.specs.PointKey.{PointKey, IsKey, form_with, levels_of, path_of, root_of, share_at, share_of, shares_of}
use Rattle.dory_expand.specs.Leaves.{children_of, leaf_bits, leaves_of, node_bit}
use Rattle.dory_expand.proofs.Blocks.{length-blocks, block_at}

twice : (n : ℕ) → 2 ^ suc n ≡ 2 ^ n + 2 ^ n
twice n = omega (arith, pow-succ' 2 n)

pub length-leaves_of : (n : Node) (cs : List Correction) → length (leaves_of n cs) ≡ 2 ^ length cs
unfolding leaves_of
length-leaves_of n [] = refl
length-leaves_of n (c ∷ cs) =
    let a = length-leaves_of (child_of false n c) cs in
    let b = length-leaves_of (child_of true n c) cs in
    let e = length-append (leaves_of (child_of false n c) cs) (leaves_of (child_of true n c) cs) in
    omega (arith, a, b, e, twice (length cs))

-- a path looks at the lowest bits alone
path_low : (n k y : ℕ) → n ≤ k → path_of n (1 * 2 ^ k + y) ≡ path_of n y
unfolding path_of
path_low zero k y h = refl
path_low (suc n) k y h =
    ap₂ (λ (b : ℕ) (p : List Bool). (b == 1) ∷ p) (bit_at_cat_low 1 k y n (omega arith)) (path_low n k y (omega arith))

pub leaf_at : (n : Node) (cs : List Correction) (x : ℕ) (d : Node) → x < 2 ^ length cs
    → get_or (leaves_of n cs) x d ≡ walk n cs (path_of (length cs) x)
unfolding leaves_of walk path_of
leaf_at n [] zero d h = refl
leaf_at n [] (suc x) d h = absurd (omega arith)
leaf_at n (c ∷ cs) x d h =
    let half = length cs in
    let left = leaves_of (child_of false n c) cs in
    let right = leaves_of (child_of true n c) cs in
    let long : length left ≡ 2 ^ half = length-leaves_of (child_of false n c) cs in
    elim (cases_lt x (2 ^ half)) [
      | inl low ↦
          rw (bit_at_above x half half low (omega arith))
          (get_or-append left right d x (omega arith) ∙ leaf_at (child_of false n c) cs x d low)
      | inr high ↦
          let y = x - 2 ^ half in
          let below : y < 2 ^ half = omega (arith, twice half) in
          let is : x ≡ 1 * 2 ^ half + y = omega arith in
          let none : half - half ≡ 0 = omega arith in
          let bit : bit_at x half ≡ 1 = ap (λ (z : ℕ). bit_at z half) is ∙ bit_at_cat_high 1 half y half below (omega arith) ∙ ap (λ (k : ℕ). bit_at 1 k) none in
          rw bit
          (get_or-append_right left right (2 ^ half) x d long high ∙ leaf_at (child_of true n c) cs y d below
          ∙ sym (ap (λ (z : ℕ). walk (child_of true n c) cs (path_of half z)) is ∙ ap (λ (p : List Bool). walk (child_of true n c) cs p) (path_low half half y (omega arith))))
    ]

-- ---- the leaves of a level

pub parted : (n : Node) (cs : List Correction) (d : Correction) → 0 < length cs
    → leaves_of n cs ≡ leaves_of (child_of false n (get_or cs 0 d)) (drop 1 cs) ++ leaves_of (child_of true n (get_or cs 0 d)) (drop 1 cs)
unfolding leaves_of
parted n cs d some = ap (leaves_of n) (drop-cons cs 0 d some)

-- the corrections after the first, as a slice takes them
pub after_first : (cs : List Correction) → take (length cs - 1) (drop 1 cs) ≡ drop 1 cs
after_first cs = take_all (length cs - 1) (drop 1 cs) (omega (arith, length-drop 1 cs))

pub some_first : (cs : List Correction) (b : Bool) → b ≡ (length cs == 0) → b ≡ false → 0 < length cs
some_first cs b e f =
    let ne = eqb-false (length cs) 0 (sym e ∙ f) in
    omega (arith, ne)

pub leaves_none : (n : Node) (cs : List Correction) → length cs ≡ 0 → leaves_of n cs ≡ n ∷ []
unfolding leaves_of
leaves_none n [] e = refl
leaves_none n (c ∷ cs) e = absurd (omega arith)

-- the leaves below all nodes of a level are those below all nodes of the next
pub next_level : (nodes : List Node) (c : Correction) (cs : List Correction)
    → flat_map (λ n. leaves_of n (c ∷ cs)) nodes ≡ flat_map (λ n. leaves_of n cs) (flat_map (children_of c) nodes)
unfolding leaves_of
next_level [] c cs = refl
next_level (n ∷ nodes) c cs =
    let left = leaves_of (child_of false n c) cs in
    let right = leaves_of (child_of true n c) cs in
    let rest = flat_map (λ m. leaves_of m cs) (flat_map (children_of c) nodes) in
    ap (λ (ns : List Node). left ++ right ++ ns) (next_level nodes c cs) ∙ append_assoc left right rest

pub last_level : (nodes : List Node) → flat_map (λ n. leaves_of n []) nodes ≡ nodes
unfolding leaves_of
last_level [] = refl
last_level (n ∷ nodes) = ap (λ (ns : List Node). n ∷ ns) (last_level nodes)

-- one level more
pub level_step : (all : List Node) (cs : List Correction) (i : ℕ) (nodes next : List Node) (d : Correction) → i < length cs
    → all ≡ flat_map (λ n. leaves_of n (drop i cs)) nodes → next ≡ flat_map (children_of (get_or cs i d)) nodes
    → all ≡ flat_map (λ n. leaves_of n (drop (i + 1) cs)) next
level_step all cs i nodes next d h e f =
    let s : suc i ≡ i + 1 = omega arith in
    let first : drop i cs ≡ get_or cs i d ∷ drop (i + 1) cs = drop-cons cs i d h ∙ ap (λ (k : ℕ). get_or cs i d ∷ drop k cs) s in
    e ∙ ap (λ (ds : List Correction). flat_map (λ n. leaves_of n ds) nodes) first
    ∙ next_level nodes (get_or cs i d) (drop (i + 1) cs)
    ∙ ap (λ (ns : List Node). flat_map (λ n. leaves_of n (drop (i + 1) cs)) ns) (sym f)

pub level_end : (all : List Node) (cs : List Correction) (i : ℕ) (nodes : List Node) → length cs ≤ i
    → all ≡ flat_map (λ n. leaves_of n (drop i cs)) nodes → nodes ≡ all
level_end all cs i nodes h e =
    sym (e ∙ ap (λ (ds : List Correction). flat_map (λ n. leaves_of n ds) nodes) (drop_all i cs h) ∙ last_level nodes)

-- ---- the shares

leaf_default : Node
leaf_default = record { seed = []; bit = false }

long_case : (depth party : ℕ) (seed : List ℕ) (cs : List Correction) → length cs ≡ depth
    → map node_bit (leaves_of (root_of party seed) cs)
    ≡ shares_of (record { depth = depth; party = party; seed = seed; corrections = cs; last = None })
unfolding shares_of
long_case depth party seed cs levels =
    let key : PointKey = record { depth = depth; party = party; seed = seed; corrections = cs; last = None } in
    let root : Node = root_of party seed in
    let leaves = leaves_of root cs in
    let long : length leaves ≡ 2 ^ depth = length-leaves_of root cs ∙ ap (λ (k : ℕ). 2 ^ k) levels in
    fill_by_all (share_of key) (map node_bit leaves) (2 ^ depth) false
    (length-map leaves node_bit ∙ long)
    (λ x h. get_or-map node_bit leaves x leaf_default false (omega (arith, long)) ∙ ap node_bit (leaf_at root cs x leaf_default (omega (arith, long, length-leaves_of root cs)))
    ∙ ap (λ (k : ℕ). (walk root cs (path_of k x)).bit) levels)

-- form 1: the bits of the leaves are the shares
pub long_shares : (key : PointKey) → IsKey key → key.last ≡ None → map node_bit (leaves_of (root_of key.party key.seed) key.corrections) ≡ shares_of key
long_shares key is e =
    let levels : length key.corrections ≡ key.depth = is.levels ∙ ap (λ (l : Option (List ℕ)). levels_of (form_with l) key.depth) e in
    long_case key.depth key.party key.seed key.corrections levels
    ∙ ap (λ (l : Option (List ℕ)). shares_of (record { depth = key.depth; party = key.party; seed = key.seed; corrections = key.corrections; last = l })) (sym e)

pub length-leaf_bits : (word : List ℕ) (leaf : Node) → length (leaf_bits word leaf) ≡ 128
unfolding leaf_bits
length-leaf_bits word leaf = length-map-range_with_len (share_at (Some word) leaf) 0 128

pub seven : (depth : ℕ) → 7 ≤ depth → 2 ^ depth ≡ 128 * 2 ^ (depth - 7)
seven depth low =
    let e : 7 + (depth - 7) ≡ depth = omega arith in
    sym (ap (λ (k : ℕ). 2 ^ k) e) ∙ pow-add 2 7 (depth - 7)

same_place : (word : List ℕ) (leaf : Node) (j : ℕ) → share_at (Some word) leaf (j % 128) ≡ share_at (Some word) leaf j
same_place word leaf j =
    let e : j % 128 % 128 ≡ j % 128 = omega arith in
    ap (λ (r : ℕ). xor (byte_bit leaf.seed r) (leaf.bit && byte_bit word r)) e

bit_in_leaf : (word : List ℕ) (leaf : Node) (j : ℕ) → get_or (leaf_bits word leaf) (j % 128) false ≡ share_at (Some word) leaf j
unfolding leaf_bits
bit_in_leaf word leaf j =
    get_or-map-range_with_len (share_at (Some word) leaf) 0 128 (j % 128) (j % 128) false (omega arith) (omega arith) ∙ same_place word leaf j

short_case : (depth party : ℕ) (seed : List ℕ) (cs : List Correction) (word : List ℕ) → 7 ≤ depth → length cs ≡ depth - 7
    → flat_map (leaf_bits word) (leaves_of (root_of party seed) cs)
    ≡ shares_of (record { depth = depth; party = party; seed = seed; corrections = cs; last = Some word })
unfolding shares_of
short_case depth party seed cs word low levels =
    let key : PointKey = record { depth = depth; party = party; seed = seed; corrections = cs; last = Some word } in
    let root : Node = root_of party seed in
    let leaves = leaves_of root cs in
    let many : length leaves ≡ 2 ^ length cs = length-leaves_of root cs in
    let same : 2 ^ length cs ≡ 2 ^ (depth - 7) = ap (λ (k : ℕ). 2 ^ k) levels in
    let long : 128 * length leaves ≡ 2 ^ depth = omega (arith, many, same, seven depth low) in
    fill_by_all (share_of key) (flat_map (leaf_bits word) leaves) (2 ^ depth) false
    (length-blocks (leaf_bits word) 128 (length-leaf_bits word) leaves ∙ long)
    (λ j h.
    let place : 128 * (j / 128) + j % 128 ≡ j = omega arith in
    let inside : j / 128 < length leaves = omega (arith, long) in
    let at : get_or leaves (j / 128) leaf_default ≡ walk root cs (path_of (depth - 7) (j / 128)) =
    leaf_at root cs (j / 128) leaf_default (omega (arith, many)) ∙ ap (λ (k : ℕ). walk root cs (path_of k (j / 128))) levels in
    ap (λ (i : ℕ). get_or (flat_map (leaf_bits word) leaves) i false) (sym place)
    ∙ block_at (leaf_bits word) 128 (length-leaf_bits word) leaves (j / 128) (j % 128) leaf_default false inside (omega arith)
    ∙ bit_in_leaf word (get_or leaves (j / 128) leaf_default) j
    ∙ ap (λ (n : Node). share_at (Some word) n j) at)

-- form 2: the bits of the leaves under the last word are the shares
pub short_shares : (key : PointKey) (word : List ℕ) → IsKey key → key.last ≡ Some word
    → flat_map (leaf_bits word) (leaves_of (root_of key.party key.seed) key.corrections) ≡ shares_of key
short_shares key word is e =
    let low : 7 ≤ key.depth = omega (arith, is.low) in
    let levels : length key.corrections ≡ key.depth - 7 = is.levels ∙ ap (λ (l : Option (List ℕ)). levels_of (form_with l) key.depth) e in
    short_case key.depth key.party key.seed key.corrections word low levels
    ∙ ap (λ (l : Option (List ℕ)). shares_of (record { depth = key.depth; party = key.party; seed = key.seed; corrections = key.corrections; last = l })) (sym e)

pub six : (depth : ℕ) → 6 ≤ depth → 2 ^ depth ≡ 64 * 2 ^ (depth - 6)
six depth low =
    let e : 6 + (depth - 6) ≡ depth = omega arith in
    sym (ap (λ (k : ℕ). 2 ^ k) e) ∙ pow-add 2 6 (depth - 6)

-- how many words the leaves fill

pub long_levels : (key : PointKey) → IsKey key → key.last ≡ None → length key.corrections ≡ key.depth
long_levels key is e = is.levels ∙ ap (λ (l : Option (List ℕ)). levels_of (form_with l) key.depth) e

pub short_levels : (key : PointKey) (word : List ℕ) → IsKey key → key.last ≡ Some word → length key.corrections ≡ key.depth - 7
short_levels key word is e = is.levels ∙ ap (λ (l : Option (List ℕ)). levels_of (form_with l) key.depth) e

pub long_len : (key : PointKey) → IsKey key → key.last ≡ None → length (leaves_of (root_of key.party key.seed) key.corrections) ≡ 2 ^ key.depth
long_len key is e =
    length-leaves_of (root_of key.party key.seed) key.corrections
    ∙ ap (λ (k : ℕ). 2 ^ k) (is.levels ∙ ap (λ (l : Option (List ℕ)). levels_of (form_with l) key.depth) e)
