use Rattle.dory_drive.proofs.Pairs.{right_pair}
use Rattle.dory_drive.proofs.law.right_beside_a_told_link.Goals as goal

pub returns : goal.returns
returns c = right_pair
