use Rattle.dory_verify.proofs.Honesty as honesty
use Rattle.dory_verify.proofs.law.honest_is_no_forgery.Goals as goal

pub returns : goal.returns
returns c = honesty.honest_is_no_forgery
