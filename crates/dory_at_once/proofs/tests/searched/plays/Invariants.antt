use Rattle.std.proofs.Common.{◌≡◌}
use Rattle.dory_shared.specs.Seen.{names_of}
use Rattle.dory_at_once.proofs.tests.searched.plays.Given as goal

abbrev pub invariant-loop-serial : goal.invariant-loop-serial
invariant-loop-serial g l = names_of l.seat ≡ g.J.Names.names

abbrev pub invariant-loop-version : goal.invariant-loop-version
invariant-loop-version g l = names_of l.seat ≡ g.J.Names.names
