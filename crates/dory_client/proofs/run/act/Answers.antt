use Rattle.dory_state.specs.Reading.{state_of}
use Rattle.dory_client.proofs.Calls.{acts_on, no_command}
use Rattle.dory_client.proofs.run.act.Goals as goal

pub returns-in-Err-command_of-clause-acts : goal.returns-in-Err-command_of-clause-acts
returns-in-Err-command_of-clause-acts g c = no_command (state_of c.args.bytes.now) c.in-Ok.state c.args.seed c.args.todo _ _ _ c.in-Err-command_of.end c.in-Ok.ensures.exact c.in-Ok.ensures.range c.in-Err-command_of.ensures.command

pub returns-clause-acts : goal.returns-clause-acts
returns-clause-acts g c = acts_on (state_of c.args.bytes.now) c.in-Ok.state c.args.seed c.args.todo c.in-Ok-command_of.command _ _ _ _ c.go.result c.in-Ok.ensures.exact c.in-Ok.ensures.range c.in-Ok-command_of.ensures.command c.go.ensures.goes
