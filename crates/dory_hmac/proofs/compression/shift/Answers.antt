use Rattle.dory_hmac.proofs.LaneLemmas.{shifts}
use Rattle.dory_hmac.proofs.compression.shift.Goals as goal

pub returns : goal.returns
returns c = shifts c.args.k c.requires c.args.a c.fits-a.0
