use Rattle.dory_drive.specs.declared.broken.Broken.TheVariants.{LinkFault, NoMemory}
use Rattle.dory_drive.proofs.Asks.{no_frame, no_room, unanswered_over}
use Rattle.dory_drive.proofs.driving.ask.Goals as goal

pub returns-in-Err-Failed-clause-unanswered : goal.returns-in-Err-Failed-clause-unanswered
returns-in-Err-Failed-clause-unanswered g c = λ request is.
    unanswered_over c.args.side _ _ request (LinkFault c.args.side) c.in-Err-Failed.ensures.only (no_frame _ _ c.args.frame.now request c.args.side is (rw c.in-Err-Failed.field-0-is at c.in-Err-Failed.ensures.asked))

pub returns-in-Err-NoMemory-clause-unanswered : goal.returns-in-Err-NoMemory-clause-unanswered
returns-in-Err-NoMemory-clause-unanswered g c = λ request is.
    unanswered_over c.args.side _ _ request NoMemory c.in-Err-NoMemory.ensures.only (no_room _ _ c.args.frame.now request is (rw c.in-Err-NoMemory.field-0-is at c.in-Err-NoMemory.ensures.asked))
