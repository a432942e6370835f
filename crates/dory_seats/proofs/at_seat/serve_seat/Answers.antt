use Rattle.dory_seats.proofs.Growing.{session_grows}
use Rattle.dory_seats.proofs.at_seat.serve_seat.Goals as goal

pub returns-clause-grown : goal.returns-clause-grown
returns-clause-grown g c = session_grows _ _ _ c.serve_session.ensures.session
