use Rattle.std.proofs.Common.{◌≡◌, ℕ, ◌-◌, ◌^◌, ◌<◌, Bool, true, false, List, [], ◌∷◌, ◌++◌, map, length, get_or, take, drop, sym, ap, ◌∙◌, arith}
use mathlib.Core.Path.{ap₂}
use Rattle.std.proofs.lemmas.Bool.{eqb-true}
use Rattle.std.proofs.lemmas.List.{length-map, map-append}
use Rattle.dory_dpf.specs.declared.tree.Correction.{Correction}
use Rattle.dory_dpf.specs.declared.tree.Node.{Node}
use Rattle.dory_dpf.specs.Tree.{child_of}
use Rattle.dory_expand.specs.Leaves.{leaves_of, node_bit}
use Rattle.dory_expand.specs.Shown.{number_of_bits}
use Rattle.dory_expand.proofs.LeafWords.{digit, joined_fits, joined_word}
use Rattle.dory_expand.proofs.Walked.{after_first, leaves_none, length-leaves_of, parted, some_first}
use Rattle.dory_expand.proofs.depth_first.+word_below.Goals as goal

one_leaf : (n : Node) (cs : List Correction) → length cs ≡ 0 → number_of_bits (n.bit ∷ []) ≡ number_of_bits (map node_bit (leaves_of n cs))
one_leaf n cs e = ap (λ (ns : List Node). number_of_bits (map node_bit ns)) (sym (leaves_none n cs e))

one_digit : (b : Bool) → Rattle.std.specs.Int.from_bool b ≡ number_of_bits (b ∷ [])
unfolding number_of_bits
one_digit b = digit b

pub returns-then-is_empty : goal.returns-then-is_empty
returns-then-is_empty t c =
    let node : Node = c.args.node.now in
    let none = eqb-true (length c.args.corrections.now) 0 (sym c.is_empty.ensures ∙ c.if-is_empty.true) in
    c.from.ensures ∙ one_digit node.bit ∙ one_leaf node c.args.corrections.now none

pub overflow_shl-result : goal.overflow_shl-result
overflow_shl-result t c = omega (arith, c.leaves_below.ensures.few)

-- the bits of the leaves on a side
side_bits : Bool → Node → List Correction → Correction → List Bool
side_bits right n cs d = map node_bit (leaves_of (child_of right n (get_or cs 0 d)) (drop 1 cs))

side_is : (right : Bool) (m n : Node) (cs : List Correction) (d : Correction) (x : ℕ) → m ≡ child_of right n (get_or cs 0 d)
    → x ≡ number_of_bits (map node_bit (leaves_of m (take (length cs - 1) (drop 1 cs)))) → x ≡ number_of_bits (side_bits right n cs d)
unfolding side_bits
side_is right m n cs d x e f = f ∙ ap₂ (λ (v : Node) (ds : List Correction). number_of_bits (map node_bit (leaves_of v ds))) e (after_first cs)

length-side_bits : (right : Bool) (n : Node) (cs : List Correction) (d : Correction) → length (side_bits right n cs d) ≡ 2 ^ length (take (length cs - 1) (drop 1 cs))
unfolding side_bits
length-side_bits right n cs d =
    length-map (leaves_of (child_of right n (get_or cs 0 d)) (drop 1 cs)) node_bit ∙ length-leaves_of (child_of right n (get_or cs 0 d)) (drop 1 cs)
    ∙ sym (ap (λ (ds : List Correction). 2 ^ length ds) (after_first cs))

both_sides : (n : Node) (cs : List Correction) (d : Correction) → 0 < length cs
    → number_of_bits (side_bits false n cs d ++ side_bits true n cs d) ≡ number_of_bits (map node_bit (leaves_of n cs))
unfolding side_bits
both_sides n cs d some =
    ap number_of_bits (sym (map-append node_bit (leaves_of (child_of false n (get_or cs 0 d)) (drop 1 cs)) (leaves_of (child_of true n (get_or cs 0 d)) (drop 1 cs)))
    ∙ ap (map node_bit) (sym (parted n cs d some)))

zero : Correction
zero = record { seed = []; left_bit = false; right_bit = false }

pub overflow_add-result : goal.overflow_add-result
unfolding zero
overflow_add-result t c =
    let n : Node = c.args.node.now in
    let cs : List Correction = c.args.corrections.now in
    let a = length-side_bits false n cs zero in
    let b = length-side_bits true n cs zero in
    let s = c.leaves_below.ensures in
    let fits = joined_fits (side_bits false n cs zero) (side_bits true n cs zero) c.word_below-low.result c.word_below-high.result c.leaves_below.result
    (side_is false c.children.result.0 n cs zero c.word_below-low.result c.children.ensures.left c.word_below-low.ensures)
    (side_is true c.children.result.1 n cs zero c.word_below-high.result c.children.ensures.right c.word_below-high.ensures)
    (s.value ∙ sym a) (omega (arith, a, b, s.value, s.few)) in
    omega (arith, fits)

pub returns : goal.returns
unfolding zero
returns t c =
    let n : Node = c.args.node.now in
    let cs : List Correction = c.args.corrections.now in
    let a = length-side_bits false n cs zero in
    let b = length-side_bits true n cs zero in
    let s = c.leaves_below.ensures in
    let some = some_first cs c.is_empty.result c.is_empty.ensures c.if-is_empty.false in
    joined_word (side_bits false n cs zero) (side_bits true n cs zero) c.word_below-low.result c.word_below-high.result c.leaves_below.result
    (side_is false c.children.result.0 n cs zero c.word_below-low.result c.children.ensures.left c.word_below-low.ensures)
    (side_is true c.children.result.1 n cs zero c.word_below-high.result c.children.ensures.right c.word_below-high.ensures)
    (s.value ∙ sym a) (omega (arith, a, b, s.value, s.few))
    ∙ both_sides n cs zero some
