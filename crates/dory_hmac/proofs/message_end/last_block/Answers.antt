use Rattle.std.proofs.Common.{◌∙◌}
use Rattle.dory_hmac.proofs.ShortMessage.{last_is}
use Rattle.dory_hmac.proofs.message_end.last_block.Goals as goal

pub returns : goal.returns
returns c =
    rw c.padded-block.ensures
    (last_is c.args.message.now _ _ c.requires (c.copy_from_slice.ensures.after ∙ c.marked.ensures) (c.copy_from_slice-2.ensures.after ∙ c.to_be_bytes.ensures))
