use Rattle.dory_wire.proofs.Cuts.{goes_on}
use Rattle.dory_wire.proofs.framer.Framer.next_message.Goals as goal

pub returns-clause-cut : goal.returns-clause-cut
returns-clause-cut c = λ fed taken is. goes_on fed taken c.args.self.now c.take_front.new.self c.take_front.result c.take_front.ensures.takes is
