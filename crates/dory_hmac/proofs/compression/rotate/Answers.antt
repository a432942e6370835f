use Rattle.dory_hmac.proofs.LaneLemmas.{shifts_rotate}
use Rattle.dory_hmac.proofs.compression.rotate.Goals as goal

pub returns : goal.returns
returns c = shifts_rotate c.args.k c.requires.0 c.requires.1 c.args.a c.fits-a.0
