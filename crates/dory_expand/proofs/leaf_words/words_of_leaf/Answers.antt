use Rattle.std.proofs.Common.{◌≡◌, length, arith}
use Rattle.dory_expand.proofs.LeafWords.{leaf_shown}
use Rattle.dory_expand.proofs.leaf_words.words_of_leaf.Goals as goal

pub returns : goal.returns
returns c =
    let bytes = c.leaf_bits-bytes.result in
    let sixteen : length bytes ≡ 16 = omega arith in
    rw (c.word_at.ensures.value, c.word_at-2.ensures.value) (leaf_shown bytes c.args.last.now c.args.leaf.now sixteen c.word_at.ensures.bytes c.leaf_bits-bytes.ensures)
