use Rattle.dory_member.specs.Course.{posting}
use Rattle.dory_member.specs.Draw.{ready}
use Rattle.dory_client.proofs.Commands.{may_post, no_row, refused_post, with_row}
use Rattle.dory_client.proofs.command.command_of.Goals as goal

pub returns-in-Plain-clause-fits : goal.returns-in-Plain-clause-fits
returns-in-Plain-clause-fits g c = (rw c.in-Plain.is at c.requires.todo) c.args.state.now.shape

pub returns-in-Some-clause-command : goal.returns-in-Some-clause-command
returns-in-Some-clause-command g c = rw c.in-Post.is (rw c.end_of.ensures (refused_post c.args.state.now c.in-Post.doc _ c.in-Some.fault c.in-Some.ensures))

pub returns-in-Err-clause-command : goal.returns-in-Err-clause-command
returns-in-Err-clause-command g c =
    rw c.in-Post.is (no_row c.args.state.now c.in-Post.doc _ _ c.in-Err.end (may_post c.args.state.now (posting (ready c.args.state.now)) c.in_default.ensures) c.in-Err.ensures.row)

pub returns-in-Ok-clause-command : goal.returns-in-Ok-clause-command
returns-in-Ok-clause-command g c =
    rw c.in-Post.is (with_row c.args.state.now c.in-Post.doc _ _ c.in-Ok.row (may_post c.args.state.now (posting (ready c.args.state.now)) c.in_default.ensures) c.in-Ok.ensures.row)
