use Rattle.std.proofs.Common.{◌∙◌}
use Rattle.dory_wire.specs.Asked.{request_by}
use Rattle.dory_wire.proofs.Lengths.{request_short, request_reads}
use Rattle.dory_wire.proofs.encode.encode_ask.Goals as goal

pub framed-requires : goal.framed-requires
framed-requires c = rw (c.deref.ensures.value ∙ c.in_ok-message.ensures) (request_short (request_by c.args.ask c.args.folder c.args.want.now) c.requires)

pub returns-clause-read_back : goal.returns-clause-read_back
returns-clause-read_back c =
    request_reads c.deref.result.now (request_by c.args.ask c.args.folder c.args.want.now) c.framed.result (c.deref.ensures.value ∙ c.in_ok-message.ensures) c.requires c.framed.ensures
