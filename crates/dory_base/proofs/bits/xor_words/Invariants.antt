use Rattle.std.proofs.Common.{◌≡◌, ℕ, ◌<◌, ◌≤◌, length, get_or, bit_xor}
use Rattle.dory_base.proofs.bits.xor_words.Given as goal

abbrev pub invariant-loop-i : goal.invariant-loop-i
invariant-loop-i l = record {
  long : length l.into.items ≡ length l.fn.into.items;
  done : (k : ℕ) → k < l.i → get_or l.into.items k 0 ≡ bit_xor (get_or l.fn.into.items k 0) (get_or l.from.items k 0);
  rest : (k : ℕ) → l.i ≤ k → get_or l.into.items k 0 ≡ get_or l.fn.into.items k 0;
}
