use Rattle.dory_journal.proofs.Journals.{number_told}
use Rattle.dory_journal.proofs.journal.Journal.number_of.Goals as goal

pub returns-clause-appended : goal.returns-clause-appended
returns-clause-appended g c = λ b told unbroken.
    let j = c.args.self.now in
    number_told j.folder.0 j.gate j.log.log b c.args.id c.number_in.result (j.at b unbroken told) c.number_in.ensures
