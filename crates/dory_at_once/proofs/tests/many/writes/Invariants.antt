use Rattle.std.proofs.Common.{◌≡◌}
use Rattle.dory_shared.specs.Seen.{names_of}
use Rattle.dory_at_once.proofs.tests.many.writes.Given as goal

abbrev pub invariant-loop-before : goal.invariant-loop-before
invariant-loop-before g l = names_of l.seat ≡ g.J.Names.names
