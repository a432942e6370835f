use Rattle.std.proofs.Common.{ℕ, List, ◌<◌, ◌*◌}
use Rattle.sha2.specs.Sha256.{IsRoundsAt}
use Rattle.dory_hmac.specs.Lanes.{HasBlock, lane, words}
use Rattle.dory_hmac.proofs.compression.compress4.Given as goal

abbrev pub invariant-schedule : goal.invariant-schedule
invariant-schedule l = (j : ℕ) (b : List ℕ) → j < 4 → HasBlock j l.fn.block b → IsRoundsAt b (lane j l.fn.state) (words j l.w) (lane j l.v) (16 * l.turn)
