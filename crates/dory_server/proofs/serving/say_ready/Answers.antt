use Rattle.dory_server.proofs.Written.{appends_nothing}
use Rattle.dory_server.proofs.serving.say_ready.Goals as goal

pub returns-in_default-clause-said : goal.returns-in_default-clause-said
returns-in_default-clause-said g c = appends_nothing _
