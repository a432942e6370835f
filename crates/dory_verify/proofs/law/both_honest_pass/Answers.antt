use Rattle.dory_verify.proofs.Passing.{both_honest}
use Rattle.dory_verify.proofs.law.both_honest_pass.Goals as goal

pub returns : goal.returns
returns c = both_honest
