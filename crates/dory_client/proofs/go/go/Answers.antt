use Rattle.dory_client.proofs.Finish.{goes_from, not_begun, stands_first, untouched}
use Rattle.dory_client.proofs.go.go.Goals as goal

pub run_member-requires : goal.run_member-requires
run_member-requires g c = stands_first _ _ c.in-Ok.ensures

pub returns-in-Ok-clause-goes : goal.returns-in-Ok-clause-goes
returns-in-Ok-clause-goes g c = goes_from c.args.state c.args.seed c.args.command c.in-Ok.member _ _ _ c.in-Ok.ensures c.run_member.ensures.goes

pub returns-in-Err-clause-goes : goal.returns-in-Err-clause-goes
returns-in-Err-clause-goes g c = rw c.end_of.ensures (not_begun c.args.state c.args.seed c.args.command _ _ c.in-Err.fault c.in-Err.ensures (untouched _))
