use Rattle.std.proofs.Common.{◌≡◌, ℕ, ◌<◌, false}
use Rattle.dory_domain.specs.Config.{stands_earlier}
use Rattle.dory_domain.proofs.config.folder_twice.Given as goal

abbrev pub invariant-loop-place : goal.invariant-loop-place
invariant-loop-place l = (k : ℕ) → k < l.place → stands_earlier l.configs k ≡ false
