-- Words that leaves fill, one after another.
use Rattle.std.proofs.Common.{◌≡◌, ℕ, ◌+◌, ◌-◌, ◌*◌, ◌^◌, ◌≤◌, Bool, None, Some, List, [], ◌∷◌, ◌++◌, map, flat_map, length, take, drop, sym, ap, ◌∙◌, arith}
use mathlib.Core.Path.{ap₂}
use Rattle.std.proofs.Math.Seq.{take-add}
use Rattle.std.proofs.lemmas.List.{length-map, length-drop, length-take-le, map-append, append-nil}
use Rattle.std.proofs.lemmas.Grind.{flat_map-append}
use Rattle.dory_base.specs.Packed.{bits_of}
use Rattle.dory_dpf.specs.declared.tree.Node.{Node}
use Rattle.dory_dpf.specs.PointKey.{PointKey, IsKey, root_of, shares_of}
use Rattle.dory_expand.specs.Leaves.{leaf_bits, leaves_of, node_bit}
use Rattle.dory_expand.specs.Shown.{all_bits, bits_of_word, number_of_bits}
use Rattle.dory_expand.proofs.Blocks.{length-all_bits, length-blocks, number_again, words_show}
use Rattle.dory_expand.proofs.Walked.{length-leaf_bits, length-leaves_of, long_len, long_shares, short_levels, short_shares, seven}

-- one word more
pub word_step : (ws : List ℕ) (leaves : List Node) (i w : ℕ) → 64 * i + 64 ≤ length leaves
    → w ≡ number_of_bits (map node_bit (take (64 * i + 64 - 64 * i) (drop (64 * i) leaves)))
    → all_bits ws ≡ map node_bit (take (64 * i) leaves)
    → all_bits (ws ++ w ∷ []) ≡ map node_bit (take (64 * (i + 1)) leaves)
word_step ws leaves i w inside is before =
    let part = take 64 (drop (64 * i) leaves) in
    let size : 64 * i + 64 - 64 * i ≡ 64 = omega arith in
    let long : length part ≡ 64 = length-take-le 64 (drop (64 * i) leaves) (omega (arith, length-drop (64 * i) leaves)) in
    let word : w ≡ number_of_bits (map node_bit part) = is ∙ ap (λ (k : ℕ). number_of_bits (map node_bit (take k (drop (64 * i) leaves)))) size in
    let bits : bits_of_word w ≡ map node_bit part = ap bits_of_word word ∙ number_again (map node_bit part) (length-map part node_bit ∙ long) in
    let place : 64 * i + 64 ≡ 64 * (i + 1) = omega arith in
    flat_map-append bits_of_word ws (w ∷ [])
    ∙ ap₂ (λ (xs ys : List Bool). xs ++ ys) before (append-nil (bits_of_word w) ∙ bits)
    ∙ sym (map-append node_bit (take (64 * i) leaves) part)
    ∙ ap (map node_bit) (sym (take-add (64 * i) 64 leaves) ∙ ap (λ (k : ℕ). take k leaves) place)

-- how many words, and what they show, in form 1
pub long_words_len : (key : PointKey) (ws : List ℕ) → IsKey key → key.last ≡ None
    → all_bits ws ≡ map node_bit (leaves_of (root_of key.party key.seed) key.corrections) → 64 * length ws ≡ 2 ^ key.depth
long_words_len key ws is e f =
    sym (length-all_bits ws) ∙ ap (length {A = Bool}) f ∙ length-map (leaves_of (root_of key.party key.seed) key.corrections) node_bit ∙ long_len key is e

pub long_words_show : (key : PointKey) (ws : List ℕ) → IsKey key → key.last ≡ None
    → all_bits ws ≡ map node_bit (leaves_of (root_of key.party key.seed) key.corrections) → bits_of (2 ^ key.depth) ws ≡ shares_of key
long_words_show key ws is e f = words_show ws (2 ^ key.depth) (long_words_len key ws is e f) ∙ f ∙ long_shares key is e

-- and in form 2
pub short_words_len : (key : PointKey) (word ws : List ℕ) → IsKey key → key.last ≡ Some word
    → all_bits ws ≡ flat_map (leaf_bits word) (leaves_of (root_of key.party key.seed) key.corrections) → 64 * length ws ≡ 2 ^ key.depth
short_words_len key word ws is e f =
    let leaves = leaves_of (root_of key.party key.seed) key.corrections in
    let low : 7 ≤ key.depth = omega (arith, is.low) in
    let many : length leaves ≡ 2 ^ (key.depth - 7) = length-leaves_of (root_of key.party key.seed) key.corrections ∙ ap (λ (k : ℕ). 2 ^ k) (short_levels key word is e) in
    sym (length-all_bits ws) ∙ ap (length {A = Bool}) f ∙ length-blocks (leaf_bits word) 128 (length-leaf_bits word) leaves
    ∙ ap (λ (k : ℕ). 128 * k) many ∙ sym (seven key.depth low)

pub short_words_show : (key : PointKey) (word ws : List ℕ) → IsKey key → key.last ≡ Some word
    → all_bits ws ≡ flat_map (leaf_bits word) (leaves_of (root_of key.party key.seed) key.corrections) → bits_of (2 ^ key.depth) ws ≡ shares_of key
short_words_show key word ws is e f = words_show ws (2 ^ key.depth) (short_words_len key word ws is e f) ∙ f ∙ short_shares key word is e
