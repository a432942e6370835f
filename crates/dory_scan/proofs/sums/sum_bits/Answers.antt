use Rattle.std.proofs.Common.{◌≡◌, ℕ, List, length, take, take_all, ap, ◌∙◌, arith}
use Rattle.dory_base.specs.Packed.{word_bit}
use Rattle.dory_scan.proofs.WordLaws.{words_at, length-words_at, words_clear}
use Rattle.dory_scan.proofs.sums.sum_bits.Goals as goal

pub of_words-requires-clause-exact : goal.of_words-requires-clause-exact
of_words-requires-clause-exact c =
    let blocks : List (List ℕ) = c.args.blocks.now in
    let all : take c.loop-block.block-index blocks ≡ blocks = take_all c.loop-block.block-index blocks (omega arith) in
    let words : c.loop-block.words.items ≡ words_at blocks c.args.selector = c.loop-block.invariant ∙ ap (λ (bs : List (List ℕ)). words_at bs c.args.selector) all in
    let len : length c.loop-block.words.items ≡ length blocks = ap (length {A = ℕ}) words ∙ length-words_at blocks c.args.selector in
    omega (arith, c.loop-block.words.ok.0, len, c.requires.exact)

pub of_words-requires-clause-clear : goal.of_words-requires-clause-clear
of_words-requires-clause-clear c = λ j far.
    let blocks : List (List ℕ) = c.args.blocks.now in
    let all : take c.loop-block.block-index blocks ≡ blocks = take_all c.loop-block.block-index blocks (omega arith) in
    let words : c.loop-block.words.items ≡ words_at blocks c.args.selector = c.loop-block.invariant ∙ ap (λ (bs : List (List ℕ)). words_at bs c.args.selector) all in
    ap (λ (ws : List ℕ). word_bit ws j) words ∙ words_clear blocks c.args.selector c.args.len c.requires.clear j far
