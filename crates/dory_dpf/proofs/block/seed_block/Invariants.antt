use Rattle.std.proofs.Common.{◌≡◌, ℕ, ◌<◌, length, slice_index}
use Rattle.rand_chacha.specs.Block.{add32, double_rounds}
use Rattle.dory_dpf.proofs.block.seed_block.Given as goal

abbrev pub invariant-rounds : goal.invariant-rounds
invariant-rounds l = l.x ≡ double_rounds l._round l.first

abbrev pub invariant-words : goal.invariant-words
invariant-words l = record {
  whole : length l.out ≡ 16;
  written : (j : ℕ) → j < l.k → slice_index l.out j ≡ add32 (slice_index l.x j) (slice_index l.first j);
}
