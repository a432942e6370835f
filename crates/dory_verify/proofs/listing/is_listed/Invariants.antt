use Rattle.std.proofs.Common.{◌≡◌, ℕ, ◌<◌, ◌/◌, length, get_or, true}
use Rattle.dory_verify.proofs.Going.{cell_is}
use Rattle.dory_verify.proofs.listing.is_listed.Given as goal

abbrev pub invariant-loop-probe : goal.invariant-loop-probe
invariant-loop-probe l = (k : ℕ) → k < length l.columns → (r : ℕ) → r < l.probe → get_or l.columns k 0 / 256 ≡ get_or l.columns r 0 / 256 → cell_is l.keys.keys l.columns l.bits l.line l.fn.place k ≡ true
