use Rattle.dory_journal.proofs.Kept.{are_lawful}
use Rattle.dory_journal.proofs.journal.Journal.open.Goals as goal

pub returns-in-Ok-clause-lawful : goal.returns-in-Ok-clause-lawful
returns-in-Ok-clause-lawful g c = are_lawful c.args.folder.0 c.args.role c.args.shape

pub returns-in-Err-clause-lawful : goal.returns-in-Err-clause-lawful
returns-in-Err-clause-lawful g c = are_lawful c.args.folder.0 c.args.role c.args.shape
