use Rattle.std.proofs.Common.{◌≡◌, ℕ, ◌<◌, ◌≤◌, length, get_or, bit_xor}
use Rattle.dory_chunks.proofs.columns.xor_into.Given as goal

abbrev pub invariant-loop-column : goal.invariant-loop-column
invariant-loop-column l = record {
  long : length l.sums.items ≡ length l.fn.sums.items;
  done : (k : ℕ) → k < l.column → get_or l.sums.items k 0 ≡ bit_xor (get_or l.fn.sums.items k 0) (get_or l.tags k 0);
  rest : (k : ℕ) → l.column ≤ k → get_or l.sums.items k 0 ≡ get_or l.fn.sums.items k 0;
}
