use Rattle.std.proofs.Common.{◌≡◌}
use Rattle.dory_shared.specs.Seen.{names_of}
use Rattle.dory_shared_bench.proofs.seats.updates.Given as goal

abbrev pub invariant-loop-step : goal.invariant-loop-step
invariant-loop-step g l = names_of l.seat ≡ g.J.Names.names
