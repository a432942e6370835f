use Rattle.dory_log.specs.Own.{IsGrown}
use Rattle.dory_log.proofs.RoomLaws.{HasRoomBelow}
use Rattle.dory_log.proofs.numbers.reserve_each.Given as goal

abbrev pub invariant-loop-i : goal.invariant-loop-i
invariant-loop-i l = IsGrown l.initial.lists.items l.lists.items × HasRoomBelow l.i l.lists.items l.more
