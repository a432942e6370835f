use Rattle.std.proofs.Common.{◌≡◌, ℕ, ◌<◌, ◌/◌, get_or, true}
use Rattle.dory_verify.proofs.Going.{cell_is}
use Rattle.dory_verify.proofs.listing.is_set_in.Given as goal

abbrev pub invariant-loop-probe : goal.invariant-loop-probe
invariant-loop-probe l = (k : ℕ) → k < l.probe → get_or l.columns k 0 / 256 ≡ l.block → cell_is l.keys.keys l.columns l.bits l.line l.fn.place k ≡ true
