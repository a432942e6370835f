use Rattle.std.proofs.Common.{◌≡◌, ℕ, ◌<◌, ◌≤◌, ◌+◌, ◌*◌, cond, false, [], length, get_or}
use Rattle.std.specs.Int.{bit_at}
use Rattle.dory_scan.specs.Words.{parities_of}
use Rattle.dory_scan.proofs.blocks.fill_block.Given as goal

abbrev pub invariant-loop-place : goal.invariant-loop-place
invariant-loop-place g l = record {
  many : length l.block ≡ length l.selectors;
  done : (s k : ℕ) → s < length l.selectors → k < l.place → bit_at (get_or l.block s 0) k ≡ cond (get_or (parities_of (g.T.SlotTable.meaning l.table).slots (get_or l.selectors s [])) (64 * l.number + k) false) 1 0;
  clear : (s k : ℕ) → s < length l.selectors → l.place ≤ k → bit_at (get_or l.block s 0) k ≡ 0;
}
