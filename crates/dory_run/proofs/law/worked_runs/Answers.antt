use Rattle.dory_run.proofs.Worked.{diverged, removed}
use Rattle.dory_run.proofs.law.worked_runs.Goals as goal

pub returns-clause-removed : goal.returns-clause-removed
returns-clause-removed c = removed

pub returns-clause-diverged : goal.returns-clause-diverged
returns-clause-diverged c = diverged
