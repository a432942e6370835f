use Rattle.std.proofs.Common.{◌≡◌, ◌-◌, ◌*◌, ◌^◌, List, map, flat_map, ◌∙◌, arith}
use mathlib.Core.Path.{ap₂}
use Rattle.dory_dpf.specs.declared.tree.Correction.{Correction}
use Rattle.dory_dpf.specs.declared.tree.Node.{Node}
use Rattle.dory_dpf.specs.PointKey.{PointKey}
use Rattle.dory_expand.specs.Leaves.{leaf_bits, leaves_of, node_bit}
use Rattle.dory_expand.proofs.Filled.{long_words_show, short_words_show}
use Rattle.dory_expand.proofs.Walked.{long_levels, short_levels, six, seven}
use Rattle.dory_expand.proofs.depth_first.expand_into.Goals as goal

pub fill_long-requires-clause-whole : goal.fill_long-requires-clause-whole
fill_long-requires-clause-whole c =
    let key : PointKey = c.args.key.now in
    let is = c.corrections.ensures.key in
    let parts : 2 ^ key.depth ≡ 64 * 2 ^ (key.depth - 6) = six key.depth (omega (arith, is.low)) in
    rw (c.corrections.ensures.value, long_levels key is c.in-None.ensures.none) (omega (arith, c.requires, parts))

pub fill_short-requires : goal.fill_short-requires
fill_short-requires c =
    let key : PointKey = c.args.key.now in
    let is = c.corrections-in-Some.ensures.key in
    let parts : 2 ^ key.depth ≡ 128 * 2 ^ (key.depth - 7) = seven key.depth (omega (arith, is.low)) in
    rw (c.corrections-in-Some.ensures.value, short_levels key c.in-Some.word.now is c.in-Some.ensures.some) (omega (arith, c.requires, parts))

pub returns-in-None-clause-bits : goal.returns-in-None-clause-bits
returns-in-None-clause-bits c =
    long_words_show c.args.key.now c.fill_long.new.into c.corrections.ensures.key c.in-None.ensures.none
    (c.fill_long.ensures.bits ∙ ap₂ (λ (n : Node) (cs : List Correction). map node_bit (leaves_of n cs)) c.root.ensures c.corrections.ensures.value)

pub returns-in-Some-clause-bits : goal.returns-in-Some-clause-bits
returns-in-Some-clause-bits c =
    short_words_show c.args.key.now c.in-Some.word.now c.fill_short.new.into c.corrections-in-Some.ensures.key c.in-Some.ensures.some
    (c.fill_short.ensures.bits ∙ ap₂ (λ (n : Node) (cs : List Correction). flat_map (leaf_bits c.in-Some.word.now) (leaves_of n cs)) c.root-in-Some.ensures c.corrections-in-Some.ensures.value)
