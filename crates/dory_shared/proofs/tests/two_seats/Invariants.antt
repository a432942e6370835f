use Rattle.std.proofs.Common.{◌≡◌}
use Rattle.dory_shared.specs.Seen.{names_of}
use Rattle.dory_shared.proofs.tests.two_seats.Given as goal

abbrev pub invariant-loop-serial : goal.invariant-loop-serial
invariant-loop-serial g l = names_of l.first ≡ g.J.Names.names

abbrev pub invariant-loop-serial-2 : goal.invariant-loop-serial-2
invariant-loop-serial-2 g l = names_of l.second ≡ g.J.Names.names
