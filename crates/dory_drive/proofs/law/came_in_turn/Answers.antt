use Rattle.dory_drive.proofs.Growth.{came_in}
use Rattle.dory_drive.proofs.law.came_in_turn.Goals as goal

pub returns : goal.returns
returns g c = came_in g.C.Conversation.course
