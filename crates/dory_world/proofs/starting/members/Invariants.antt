use Rattle.std.proofs.Common.{◌≡◌}
use Rattle.dory_run.specs.Start.{members_from}
use Rattle.dory_world.proofs.starting.members.Given as goal

abbrev pub invariant-loop-number : goal.invariant-loop-number
invariant-loop-number l = l.members.items ≡ members_from l.setup 0 l.number
