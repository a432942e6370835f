use Rattle.std.proofs.Common.{◌∙◌, subst}
use Rattle.dory_base.specs.declared.ids.FolderId.{FolderId}
use Rattle.dory_wire.specs.declared.message.Want.{Want}
use Rattle.dory_wire.specs.declared.message.Want.TheVariants.{Latest}
use Rattle.dory_shared.specs.Reading.{Reads}
use Rattle.dory_at_once.proofs.Growth.{grown_reads, latest_read}
use Rattle.dory_at_once.proofs.reading.length.Goals as goal

pub returns : goal.returns
returns g c =
    let seen = c.args.seat.now in
    let now = c.read-reply.new.self in
    let what = c.read-reply.result.what in
    let reads : Reads seen c.args.folder.0 Latest what now =
    subst (λ (w : Want). Reads seen c.args.folder.0 w what now) c.asked.ensures.want
    (subst (λ (f : FolderId). Reads seen f.0 c.asked.result.want what now) c.asked.ensures.folder c.read-reply.ensures.reads) in
    record {
      value = c.told.ensures ∙ latest_read seen c.args.folder.0 what now reads;
      grown = grown_reads seen c.args.folder.0 Latest what now reads;
      names = c.read-reply.ensures.names;
    }
