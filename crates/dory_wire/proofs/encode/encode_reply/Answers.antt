use Rattle.std.proofs.Common.{◌∙◌}
use Rattle.dory_wire.proofs.Lengths.{reply_short, reply_reads}
use Rattle.dory_wire.proofs.encode.encode_reply.Goals as goal

pub framed-requires : goal.framed-requires
framed-requires c = rw (c.deref.ensures.value ∙ c.in_ok-message.ensures) (reply_short c.args.reply.now c.requires)

pub returns-clause-read_back : goal.returns-clause-read_back
returns-clause-read_back c =
    reply_reads c.deref.result.now c.args.reply.now c.framed.result (c.deref.ensures.value ∙ c.in_ok-message.ensures) c.requires c.framed.ensures
