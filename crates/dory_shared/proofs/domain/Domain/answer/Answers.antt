use Rattle.dory_shared.proofs.SeatLists.{reads_answer}
use Rattle.dory_shared.proofs.domain.Domain.answer.Goals as goal

pub returns-in-Search-clause-answers : goal.returns-in-Search-clause-answers
returns-in-Search-clause-answers g c =
    reads_answer c.args.seat.now c.args.request.now.folder.0 c.args.request.now.want c.read-in-Search.result.what c.read-in-Search.new.self c.read-in-Search.ensures.reads
