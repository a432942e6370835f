use Rattle.std.proofs.Common.{◌≡◌, ℕ, ◌<◌, ◌≤◌, ◌+◌, [], length, get_or, replicate}
use Rattle.dory_scan.specs.Words.{IsBlock}
use Rattle.dory_scan.proofs.blocks.fill.Given as goal

abbrev pub invariant-loop-k : goal.invariant-loop-k
invariant-loop-k g l = record {
  many : length l.blocks ≡ length l.initial.blocks;
  done : (k : ℕ) → k < l.k → IsBlock (g.T.SlotTable.meaning l.table).slots l.selectors (l.first + k) (get_or l.blocks k []);
  clear : (k : ℕ) → l.k ≤ k → k < length l.blocks → get_or l.blocks k [] ≡ replicate (length l.selectors) 0;
}
