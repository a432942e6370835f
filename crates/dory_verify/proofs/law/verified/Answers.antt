use Rattle.dory_verify.proofs.Shifts.{verified}
use Rattle.dory_verify.proofs.law.verified.Goals as goal

pub returns : goal.returns
returns c = verified
