use Rattle.std.proofs.Common.{◌∙◌}
use Rattle.dory_journal.proofs.Walks.{walked}
use Rattle.dory_journal.proofs.journal.Journal.op_at.Goals as goal

pub returns-clause-walks : goal.returns-clause-walks
returns-clause-walks g c = λ b ops told whole gate.
    let j = c.args.self.now in
    walked j.folder.0 j.log.log.role j.log.log.shape ops c.args.gate b whole gate c.look.result (c.look.ensures.looks b (c.length.ensures.same ∙ told))
