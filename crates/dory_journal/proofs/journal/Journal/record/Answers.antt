use Rattle.std.proofs.Common.{◌≡◌, None, false, subst}
use Rattle.std.specs.Prelude.{IfOk, OnOk}
use Rattle.dory_journal.specs.Made.{op_made, refusal_of}
use Rattle.dory_journal.specs.Recording.{Records}
use Rattle.dory_journal.proofs.Journals.{acknowledged}
use Rattle.dory_journal.proofs.journal.Journal.record.Goals as goal

pub returns-clause-acknowledged : goal.returns-clause-acknowledged
returns-clause-acknowledged g c = λ is.
    let j = c.args.self.now in
    let now = c.keep.new.self in
    let want = c.args.request.now.want in
    let answer : None ≡ refusal_of j.log.log want = subst (λ r. IfOk r (λ x. x ≡ refusal_of j.log.log want)) is c.keep.ensures.answer in
    let kept : Records (g.D.Disk.told j.disk) (g.D.Disk.told now.disk) j.folder.0 j.log.log (op_made j.log.log want) =
    subst (λ r. OnOk r (Records (g.D.Disk.told j.disk) (g.D.Disk.told now.disk) j.folder.0 j.log.log (op_made j.log.log want))) is c.keep.ensures.kept in
    let unbroken : now.broken ≡ false = subst (λ r. OnOk r (now.broken ≡ false)) is c.keep.ensures.open in
    acknowledged j.folder.0 j.gate j.log.log want (g.D.Disk.told j.disk) (g.D.Disk.told now.disk) (g.D.Disk.may_leave now.disk)
    (λ b told. j.at b c.if-self.false told) c.requires.range.want answer kept (now.durable unbroken)
