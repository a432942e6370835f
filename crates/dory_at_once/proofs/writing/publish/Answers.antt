use Rattle.std.proofs.Common.{subst}
use Rattle.dory_base.specs.declared.ids.FolderId.{FolderId}
use Rattle.dory_wire.specs.declared.message.Want.{Want}
use Rattle.dory_wire.specs.declared.message.Want.TheVariants.{Order}
use Rattle.dory_shared.specs.Answering.{Answers}
use Rattle.dory_at_once.proofs.Growth.{grown_trans, grown_answers}
use Rattle.dory_at_once.proofs.writing.publish.Goals as goal

pub returns : goal.returns
returns g c =
    let seen = c.args.seat.now in
    let between = c.write.new.seat in
    let now = c.write-reply.new.seat in
    let what = c.write-reply.result.what in
    let first = grown_answers seen c.asked.result.folder.0 c.asked.result.want c.write.result.what between c.write.ensures.answers in
    let second = grown_answers between c.asked-2.result.folder.0 c.asked-2.result.want what now c.write-reply.ensures.answers in
    let ordered : Answers between c.args.folder.0 (Order c.args.entry.id) what now =
    subst (λ (w : Want). Answers between c.args.folder.0 w what now) c.asked-2.ensures.want
    (subst (λ (f : FolderId). Answers between f.0 c.asked-2.result.want what now) c.asked-2.ensures.folder c.write-reply.ensures.answers) in
    record {
      fits = c.write-reply.ensures.fits;
      grown = grown_trans seen between now first second;
      ordered = record { between = between; what = what; grown = first; answers = ordered; told = c.told.ensures };
    }
