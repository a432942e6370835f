use Rattle.dory_run.proofs.Every.{accepted, seen, whole}
use Rattle.dory_run.proofs.law.every_run.Goals as goal

pub returns-clause-whole : goal.returns-clause-whole
returns-clause-whole c = whole

pub returns-clause-seen : goal.returns-clause-seen
returns-clause-seen c = seen

pub returns-clause-accepted : goal.returns-clause-accepted
returns-clause-accepted c = accepted
