use Rattle.dory_io.proofs.Coming.{read_came}
use Rattle.dory_session.proofs.intake.read_on.Goals as goal

pub returns-in-Err-feed-clause-more : goal.returns-in-Err-feed-clause-more
returns-in-Err-feed-clause-more g c =
    (_, read_came _ _ _ _ _ _ _ c.read.new.into c.in-Ok.ensures.within c.in-Ok.ensures.bytes c.in-Ok.ensures.given, tt)
