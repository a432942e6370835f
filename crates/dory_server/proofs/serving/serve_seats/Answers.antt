use Rattle.dory_server.proofs.Unopened.{wrote_nothing}
use Rattle.dory_server.proofs.Written.{appends_nothing}
use Rattle.dory_server.proofs.serving.serve_seats.Goals as goal

pub returns-in-Err-clause-wrote : goal.returns-in-Err-clause-wrote
returns-in-Err-clause-wrote g c = wrote_nothing _ _ _ _ c.in-Err.end c.in-Err.ensures.only (appends_nothing _)
