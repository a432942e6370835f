use Rattle.std.proofs.Common.{◌≡◌, ℕ, ◌+◌, ◌-◌, ◌/◌, ◌≤◌, List, [], ◌∷◌, map, length, get_or, take, drop, sym, ap, ◌∙◌, arith}
use Rattle.std.specs.Int.{from_bool}
use Rattle.std.proofs.lemmas.List.{length-map, length-take-le, length-drop, map-append, take_all, take-append-drop}
use Rattle.dory_dpf.specs.declared.tree.Node.{Node}
use Rattle.dory_expand.specs.Leaves.{node_bit}
use Rattle.dory_expand.specs.Shown.{number_of_bits}
use Rattle.dory_expand.proofs.LeafWords.{digit, joined_fits, joined_word}
use Rattle.dory_expand.proofs.leaf_words.+word_of_leaves.Goals as goal

single : (ns : List Node) (d : Node) → length ns ≡ 1 → from_bool (get_or ns 0 d).bit ≡ number_of_bits (map node_bit ns)
unfolding number_of_bits
single [] d e = absurd (omega arith)
single (n ∷ []) d e = digit n.bit
single (n ∷ m ∷ ns) d e = absurd (omega arith)

pub returns-then-leaves-eq1 : goal.returns-then-leaves-eq1
returns-then-leaves-eq1 t c = c.from.ensures ∙ single c.args.leaves.now _ c.if-leaves-eq1.true

high_is : (ns : List Node) (half : ℕ) → number_of_bits (map node_bit (take (length ns - half) (drop half ns))) ≡ number_of_bits (map node_bit (drop half ns))
high_is ns half =
    ap (λ (xs : List Node). number_of_bits (map node_bit xs)) (take_all (length ns - half) (drop half ns) (omega (arith, length-drop half ns)))

length-low : (ns : List Node) (half : ℕ) → half ≤ length ns → half ≡ length (map node_bit (take half ns))
length-low ns half h = sym (length-map (take half ns) node_bit ∙ length-take-le half ns h)

length-both : (ns : List Node) (half : ℕ) → half ≤ length ns → length ns ≤ 64 → length (map node_bit (take half ns)) + length (map node_bit (drop half ns)) ≤ 64
length-both ns half h few =
    omega (arith, length-low ns half h, length-map (drop half ns) node_bit, length-drop half ns)

pub overflow_add-result : goal.overflow_add-result
overflow_add-result t c =
    let ns : List Node = c.args.leaves.now in
    let half = length ns / 2 in
    let inside : half ≤ length ns = omega arith in
    let fits = joined_fits (map node_bit (take half ns)) (map node_bit (drop half ns)) c.word_of_leaves-low.result c.word_of_leaves-high.result half
    c.word_of_leaves-low.ensures (c.word_of_leaves-high.ensures ∙ high_is ns half) (length-low ns half inside) (length-both ns half inside c.requires.few) in
    omega (arith, fits)

pub returns : goal.returns
returns t c =
    let ns : List Node = c.args.leaves.now in
    let half = length ns / 2 in
    let inside : half ≤ length ns = omega arith in
    joined_word (map node_bit (take half ns)) (map node_bit (drop half ns)) c.word_of_leaves-low.result c.word_of_leaves-high.result half
    c.word_of_leaves-low.ensures (c.word_of_leaves-high.ensures ∙ high_is ns half) (length-low ns half inside) (length-both ns half inside c.requires.few)
    ∙ ap number_of_bits (sym (map-append node_bit (take half ns) (drop half ns)) ∙ ap (map node_bit) (take-append-drop half ns))
