use Rattle.dory_member.proofs.Turns.{goes, goes_on}
use Rattle.dory_member.proofs.member.Member.take_reply.Goals as goal

pub invariant_of-self : goal.invariant_of-self
invariant_of-self c =
    let t = c.turned-phase in
    rw c.keep.ensures (goes_on c.self.inside.run t.result.phase t.result.frame c.self.invariant.runs t.ensures.named t.ensures.within t.ensures.frame)

pub returns : goal.returns
returns c =
    goes c.self.inside.run c.self.inside.unsaved c.args.self.now c.args.frame.now c.failed.result c.replace-phase.result c.turned-phase.result.phase c.keep.new.state c.saves_last-self-inside.result
    c.self.view_is c.replace-phase.ensures.value c.turned-phase.ensures.phase c.keep.ensures c.saves_last-self-inside.ensures
