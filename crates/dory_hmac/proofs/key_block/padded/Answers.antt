use Rattle.std.proofs.Common.{◌++◌, length, ap}
use Rattle.std.proofs.lemmas.List.{drop-replicate}
use Rattle.dory_hmac.proofs.key_block.padded.Goals as goal

pub returns : goal.returns
returns c = rw c.copy_from_slice.ensures.after (ap (λ z. c.args.part.now ++ z) (drop-replicate (length c.args.part.now) 64 0))
