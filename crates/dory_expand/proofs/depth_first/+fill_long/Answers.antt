use Rattle.std.proofs.Common.{◌≡◌, ℕ, ◌+◌, suc, ◌-◌, ◌*◌, ◌/◌, ◌^◌, ◌<◌, ◌≤◌, false, true, List, [], ◌++◌, map, length, get_or, set, take, drop, refl, sym, ap, ◌∙◌, arith, rules}
use mathlib.Core.Path.{ap₂}
use Rattle.std.proofs.Math.Nat.{pow-succ'}
use Rattle.std.proofs.lemmas.List.{length-map, map-append, length-drop}
use Rattle.std.proofs.lemmas.Grind.{flat_map-append}
use Rattle.dory_dpf.specs.declared.tree.Correction.{Correction}
use Rattle.dory_dpf.specs.declared.tree.Node.{Node}
use Rattle.dory_dpf.specs.Tree.{child_of}
use Rattle.dory_expand.specs.Leaves.{leaves_of, node_bit}
use Rattle.dory_expand.specs.Shown.{all_bits, bits_of_word}
use Rattle.dory_expand.proofs.Blocks.{one_word}
use Rattle.dory_expand.proofs.Walked.{after_first, length-leaves_of, parted, six}
use Rattle.dory_expand.proofs.depth_first.+fill_long.Goals as goal

pub returns-then-corrections-eq6-clause-bits : goal.returns-then-corrections-eq6-clause-bits
returns-then-corrections-eq6-clause-bits t c =
    let n : Node = c.args.node.now in
    let cs : List Correction = c.args.corrections.now in
    let all : 2 ^ length cs ≡ 64 = ap (λ (k : ℕ). 2 ^ k) c.if-corrections-eq6.true in
    let one : length c.args.into.now ≡ 1 = omega (arith, c.requires.whole, all) in
    let many : length (map node_bit (leaves_of n cs)) ≡ 64 = length-map (leaves_of n cs) node_bit ∙ length-leaves_of n cs ∙ all in
    ap (λ (w : ℕ). all_bits (set c.args.into.now 0 w)) c.word_below.ensures ∙ one_word c.args.into.now (map node_bit (leaves_of n cs)) one many

-- the words of each half
halves : (cs : List Correction) (len half a b : ℕ) → 6 ≤ length cs → (length cs ≡ 6 → ⊥) → 64 * len ≡ 2 ^ length cs → half ≡ len / 2 → a ≡ half → b + half ≡ len
    → (6 ≤ length (take (length cs - 1) (drop 1 cs))) × (64 * a ≡ 2 ^ length (take (length cs - 1) (drop 1 cs))) × (64 * b ≡ 2 ^ length (take (length cs - 1) (drop 1 cs)))
halves cs len half a b low ne whole e f g =
    let n = length cs in
    let rest : length (take (n - 1) (drop 1 cs)) ≡ n - 1 = ap (length {A = Correction}) (after_first cs) ∙ length-drop 1 cs in
    let up : 7 ≤ n = omega arith in
    let p : 2 ^ (n - 1) ≡ 64 * 2 ^ (n - 1 - 6) = six (n - 1) (omega arith) in
    let s : n ≡ suc (n - 1) = omega arith in
    let q : 2 ^ n ≡ 2 * 2 ^ (n - 1) = ap (λ (k : ℕ). 2 ^ k) s ∙ pow-succ' 2 (n - 1) in
    let r : 2 ^ length (take (n - 1) (drop 1 cs)) ≡ 2 ^ (n - 1) = ap (λ (k : ℕ). 2 ^ k) rest in
    let x = 2 ^ (n - 1 - 6) in
    (omega (arith, rest, up), omega (arith, whole, p, q, r, e, f, g), omega (arith, whole, p, q, r, e, f, g))

pub fill_long-requires : goal.fill_long-requires
fill_long-requires t c =
    let cs : List Correction = c.args.corrections.now in
    let s = c.split_at_mut-low.ensures in
    let h = halves cs (length c.args.into.now) _ _ _ c.requires.levels c.if-corrections-eq6.false c.requires.whole refl s.front_len s.back_len in
    (search rules, (h.0, h.1))

pub fill_long-requires-2 : goal.fill_long-requires-2
fill_long-requires-2 t c =
    let cs : List Correction = c.args.corrections.now in
    let s = c.split_at_mut-low.ensures in
    let h = halves cs (length c.args.into.now) _ _ _ c.requires.levels c.if-corrections-eq6.false c.requires.whole refl s.front_len s.back_len in
    (search rules, (h.0, h.2))

zero : Correction
zero = record { seed = []; left_bit = false; right_bit = false }

pub returns-clause-bits : goal.returns-clause-bits
unfolding zero
returns-clause-bits t c =
    let n : Node = c.args.node.now in
    let cs : List Correction = c.args.corrections.now in
    let a : Node = child_of false n (get_or cs 0 zero) in
    let b : Node = child_of true n (get_or cs 0 zero) in
    let some : 0 < length cs = omega (arith, c.requires.levels) in
    let left = c.fill_long.ensures.bits ∙ ap₂ (λ (v : Node) (ds : List Correction). map node_bit (leaves_of v ds)) c.children.ensures.left (after_first cs) in
    let right = c.fill_long-2.ensures.bits ∙ ap₂ (λ (v : Node) (ds : List Correction). map node_bit (leaves_of v ds)) c.children.ensures.right (after_first cs) in
    flat_map-append bits_of_word c.fill_long.new.into c.fill_long-2.new.into
    ∙ ap₂ (λ xs ys. xs ++ ys) left right
    ∙ sym (map-append node_bit (leaves_of a (drop 1 cs)) (leaves_of b (drop 1 cs)))
    ∙ ap (map node_bit) (sym (parted n cs zero some))
