use Rattle.dory_client.proofs.Finish.{broken_off, handed_told}
use Rattle.dory_client.proofs.go.run_member.Goals as goal

pub returns-in-Ok-clause-goes : goal.returns-in-Ok-clause-goes
returns-in-Ok-clause-goes g c = handed_told c.args.member.now.run _ _ _ c.in-Ok.outcome.now c.tell.result c.in-Ok.ensures.unwritten c.tell.ensures.only c.tell.ensures.comes c.in-Ok.ensures.goes

pub returns-in-Err-clause-goes : goal.returns-in-Err-clause-goes
returns-in-Err-clause-goes g c = rw c.broken_end.ensures (broken_off c.args.member.now.run _ _ c.in-Err.broken c.in-Err.ensures.unwritten c.in-Err.ensures.goes)
