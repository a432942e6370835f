use Rattle.std.proofs.Common.{◌≡◌, ℕ, [], ◌<◌, ◌*◌, length, get_or}
use Rattle.sha2.specs.Sha256.{word_at}
use Rattle.dory_hmac.specs.Lanes.{lane_at}
use Rattle.dory_hmac.proofs.four_lanes.loaded.Given as goal

abbrev pub invariant-load : goal.invariant-load
invariant-load l = (length l.w ≡ 16) × ((j k : ℕ) → j < 4 → k < l.i → lane_at l.w k j ≡ word_at (get_or l.fn.blocks j []) (4 * k))
