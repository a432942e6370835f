use Rattle.std.proofs.Common.{◌≡◌, ℕ, ◌<◌, ◌≤◌, ◌-◌, length, get_or, bit_xor}
use Rattle.dory_kernel.proofs.tags.xor_tags.Given as goal

abbrev pub invariant-vectors : goal.invariant-vectors
invariant-vectors l = record {
  within : l.at ≤ length l.into;
  done : (k : ℕ) → k < l.at → get_or l.into k 0 ≡ bit_xor (get_or l.fn.into k 0) (get_or l.from k 0);
  rest : (k : ℕ) → l.at ≤ k → get_or l.into k 0 ≡ get_or l.fn.into k 0;
}

abbrev pub decreases-vectors : goal.decreases-vectors
decreases-vectors l = length l.into - l.at

abbrev pub invariant-rest : goal.invariant-rest
invariant-rest l = record {
  done : (k : ℕ) → k < l.i → get_or l.into k 0 ≡ bit_xor (get_or l.fn.into k 0) (get_or l.from k 0);
  rest : (k : ℕ) → l.i ≤ k → get_or l.into k 0 ≡ get_or l.fn.into k 0;
}
