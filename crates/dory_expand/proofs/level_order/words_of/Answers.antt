use Rattle.std.proofs.Common.{List, length, flat_map, map, ap, ◌∙◌, arith}
use Rattle.std.proofs.lemmas.Result.{IfOk-weaker}
use Rattle.dory_dpf.specs.declared.tree.Node.{Node}
use Rattle.dory_expand.specs.Leaves.{leaf_bits, node_bit}
use Rattle.dory_expand.proofs.Filled.{long_words_len, long_words_show, short_words_len, short_words_show}
use Rattle.dory_expand.proofs.Walked.{long_len, six}
use Rattle.dory_expand.proofs.level_order.words_of.Goals as goal

pub long_words-requires : goal.long_words-requires
long_words-requires c =
    let is = c.requires.key in
    let many = ap (length {A = Node}) c.requires.whole ∙ long_len c.args.key.now is c.in-None.ensures.none in
    omega (arith, many, six c.args.key.now.depth (omega (arith, is.low)))

pub returns-in-None-clause-len : goal.returns-in-None-clause-len
returns-in-None-clause-len c =
    IfOk-weaker c.long_words.result _ _
    (λ ws e. long_words_len c.args.key.now ws.items c.requires.key c.in-None.ensures.none (e ∙ ap (λ (ns : List Node). map node_bit ns) c.requires.whole))
    c.long_words.ensures

pub returns-in-None-clause-bits : goal.returns-in-None-clause-bits
returns-in-None-clause-bits c =
    IfOk-weaker c.long_words.result _ _
    (λ ws e. long_words_show c.args.key.now ws.items c.requires.key c.in-None.ensures.none (e ∙ ap (λ (ns : List Node). map node_bit ns) c.requires.whole))
    c.long_words.ensures

pub returns-in-Some-clause-len : goal.returns-in-Some-clause-len
returns-in-Some-clause-len c =
    IfOk-weaker c.short_words.result _ _
    (λ ws e. short_words_len c.args.key.now c.in-Some.word.now ws.items c.requires.key c.in-Some.ensures.some (e ∙ ap (λ (ns : List Node). flat_map (leaf_bits c.in-Some.word.now) ns) c.requires.whole))
    c.short_words.ensures

pub returns-in-Some-clause-bits : goal.returns-in-Some-clause-bits
returns-in-Some-clause-bits c =
    IfOk-weaker c.short_words.result _ _
    (λ ws e. short_words_show c.args.key.now c.in-Some.word.now ws.items c.requires.key c.in-Some.ensures.some (e ∙ ap (λ (ns : List Node). flat_map (leaf_bits c.in-Some.word.now) ns) c.requires.whole))
    c.short_words.ensures
