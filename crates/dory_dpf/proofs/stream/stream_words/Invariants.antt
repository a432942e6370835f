use Rattle.std.proofs.Common.{◌≡◌, ℕ, ◌<◌, slice_index}
use Rattle.rand_chacha.specs.ChaCha.{key_of}
use Rattle.dory_dpf.specs.Block.{stream_word}
use Rattle.dory_dpf.proofs.stream.stream_words.Given as goal

abbrev pub invariant-loop-word : goal.invariant-loop-word
invariant-loop-word l = record {
  place : l.rng ≡ record { key = key_of l.key; stream = l.stream; word_pos = l.word-index };
  written : (k : ℕ) → k < l.word-index → slice_index l.into k ≡ stream_word l.key l.stream k;
}
