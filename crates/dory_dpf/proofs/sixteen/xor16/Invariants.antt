use Rattle.std.proofs.Common.{◌≡◌, ℕ, ◌<◌, ◌≤◌, length, get_or, bit_xor}
use Rattle.dory_dpf.proofs.sixteen.xor16.Given as goal

abbrev pub invariant-loop-i : goal.invariant-loop-i
invariant-loop-i l = record {
  whole : length l.out ≡ 16;
  done : (k : ℕ) → k < l.i → get_or l.out k 0 ≡ bit_xor (get_or l.a k 0) (get_or l.b k 0);
  left : (k : ℕ) → l.i ≤ k → get_or l.out k 0 ≡ get_or l.a k 0;
}
