use Rattle.std.proofs.Common.{◌∙◌}
use Rattle.dory_drive.proofs.Turns.{follow_counts, goes_further, lead_counts, others}
use Rattle.dory_drive.proofs.driving.talk.Goals as goal

pub loop-side-preserved : goal.loop-side-preserved
loop-side-preserved g c =
    let before = c.loop-side.invariant in
    let p = c.in-Ask.ensures.1 in
    let a = g.W.Outside.scene c.args.outside.now in
    let m = g.W.Outside.scene c.loop-side.outside in
    let z = g.W.Outside.scene c.ask.new.outside in
    record {
      lent = c.in-Ok.ensures.lent ∙ before.lent;
      only = others c.in-Ask.side a m z before.only c.in-Ok.ensures.only;
      goes = goes_further g.C.Conversation.course g.met.C.Conversation.laws _ _ _ _ _ _ _ _ c.in-Ask.side c.in-Ask.frame.now c.in-Ok.reply.items before.goes p
          (c.in-Ok.ensures.asked p.request p.framed) (rw c.deref.ensures.value at c.take_reply.ensures.taken) c.take_reply.ensures.unsaved;
      lead = lead_counts c.in-Ask.side a m z before.lead c.in-Ok.ensures.only c.in-Ok.ensures.cause;
      follow = follow_counts c.in-Ask.side a m z before.follow c.in-Ok.ensures.only c.in-Ok.ensures.cause;
    }
