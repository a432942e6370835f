use Rattle.dory_member.proofs.Turns.{asks_by}
use Rattle.dory_member.proofs.member.Member.next.Goals as goal

pub returns-in-Some-clause-request : goal.returns-in-Some-clause-request
returns-in-Some-clause-request c ask asked =
    asks_by c.self.inside.run c.self.inside.unsaved c.args.self.now ask c.self.inside.frame c.bytes.result.now c.self.view_is c.self.invariant.framed asked c.bytes.ensures
