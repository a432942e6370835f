use Rattle.std.proofs.Common.{ℕ, ◌<◌, ◌*◌}
use Rattle.dory_seal.specs.Seal.{HasTag}
use Rattle.dory_seal.proofs.audit.first_bad.Given as goal

abbrev pub invariant-loop-run : goal.invariant-loop-run
invariant-loop-run l = (j : ℕ) → j < 64 * l.run → HasTag l.keys.keys l.doc l.id l.row l.tags j
