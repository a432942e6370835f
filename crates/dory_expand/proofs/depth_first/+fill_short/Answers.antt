use Rattle.std.proofs.Common.{false, true, List, [], ◌++◌, flat_map, length, get_or, drop, sym, ap, ◌∙◌}
use mathlib.Core.Path.{ap₂}
use Rattle.std.proofs.lemmas.Bool.{eqb-true}
use Rattle.std.proofs.lemmas.List.{append-nil}
use Rattle.std.proofs.lemmas.Grind.{flat_map-append}
use Rattle.dory_dpf.specs.declared.tree.Correction.{Correction}
use Rattle.dory_dpf.specs.declared.tree.Node.{Node}
use Rattle.dory_dpf.specs.Tree.{child_of}
use Rattle.dory_expand.specs.Leaves.{leaf_bits, leaves_of}
use Rattle.dory_expand.specs.Shown.{all_bits, bits_of_word}
use Rattle.dory_expand.proofs.Walked.{after_first, leaves_none, parted, some_first}
use Rattle.dory_expand.proofs.depth_first.+fill_short.Goals as goal

pub returns-then-is_empty-clause-bits : goal.returns-then-is_empty-clause-bits
returns-then-is_empty-clause-bits t c =
    let n : Node = c.args.node.now in
    let cs : List Correction = c.args.corrections.now in
    let word = c.args.last.now in
    let none = eqb-true (length cs) 0 (sym c.is_empty.ensures ∙ c.if-is_empty.true) in
    ap all_bits c.copy_from_slice.ensures.after ∙ c.words_of_leaf.ensures ∙ sym (append-nil (leaf_bits word n))
    ∙ ap (λ (ns : List Node). flat_map (leaf_bits word) ns) (sym (leaves_none n cs none))

zero : Correction
zero = record { seed = []; left_bit = false; right_bit = false }

pub returns-clause-bits : goal.returns-clause-bits
unfolding zero
returns-clause-bits t c =
    let n : Node = c.args.node.now in
    let cs : List Correction = c.args.corrections.now in
    let word = c.args.last.now in
    let a : Node = child_of false n (get_or cs 0 zero) in
    let b : Node = child_of true n (get_or cs 0 zero) in
    let some = some_first cs c.is_empty.result c.is_empty.ensures c.if-is_empty.false in
    let left = c.fill_short.ensures.bits ∙ ap₂ (λ (v : Node) (ds : List Correction). flat_map (leaf_bits word) (leaves_of v ds)) c.children.ensures.left (after_first cs) in
    let right = c.fill_short-2.ensures.bits ∙ ap₂ (λ (v : Node) (ds : List Correction). flat_map (leaf_bits word) (leaves_of v ds)) c.children.ensures.right (after_first cs) in
    flat_map-append bits_of_word c.fill_short.new.into c.fill_short-2.new.into
    ∙ ap₂ (λ xs ys. xs ++ ys) left right
    ∙ sym (flat_map-append (leaf_bits word) (leaves_of a (drop 1 cs)) (leaves_of b (drop 1 cs)))
    ∙ ap (λ (ns : List Node). flat_map (leaf_bits word) ns) (sym (parted n cs zero some))
