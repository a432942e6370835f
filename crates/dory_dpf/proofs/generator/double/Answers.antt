use Rattle.std.proofs.Common.{◌≡◌, ◌<◌, ℕ, lit<, slice_index}
use Rattle.dory_dpf.specs.Block.{doubled_of, seed_word}
use Rattle.dory_dpf.proofs.generator.double.Goals as goal

pub returns : goal.returns
unfolding doubled_of
returns c =
    let word : (k : ℕ) → k < 16 → slice_index c.seed_block-words.result k ≡ seed_word c.args.seed.now k = c.seed_block-words.ensures in
    rw (
      c.bytes_of.ensures,
      c.bytes_of-2.ensures,
      word 0 (lit< tt),
      word 1 (lit< tt),
      word 2 (lit< tt),
      word 3 (lit< tt),
      word 4 (lit< tt),
      word 5 (lit< tt),
      word 6 (lit< tt),
      word 7 (lit< tt),
      word 8 (lit< tt),
      word 9 (lit< tt),
    )
