use Rattle.dory_world.specs.Plays.{shown}
use Rattle.dory_world.proofs.Rounds.{Underway}
use Rattle.dory_world.proofs.playing.run.Given as goal

abbrev pub invariant-loop-i : goal.invariant-loop-i
invariant-loop-i g l = Underway l.honest l.setup l.events l.i l.lines (shown l.world.members.items l.world.lead.folders l.world.follow.folders l.world.messages.items)
