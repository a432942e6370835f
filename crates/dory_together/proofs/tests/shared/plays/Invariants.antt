use Rattle.std.proofs.Common.{◌≡◌}
use Rattle.dory_shared.specs.Seen.{names_of}
use Rattle.dory_together.proofs.tests.shared.plays.Given as goal

abbrev pub invariant-loop-done : goal.invariant-loop-done
invariant-loop-done g l = (names_of l.seats.lead ≡ g.J.Names.names) × (names_of l.seats.follow ≡ g.K.Names.names)
