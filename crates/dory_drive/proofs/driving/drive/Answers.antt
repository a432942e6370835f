use Rattle.dory_drive.proofs.Finishing.{ask_failed, asks_nothing, ends_closed, first_failed}
use Rattle.dory_drive.proofs.driving.drive.Goals as goal

pub returns-in-Err-clause-goes : goal.returns-in-Err-clause-goes
returns-in-Err-clause-goes g c = first_failed g.C.Conversation.course _ _ _ c.in-Err.end c.in-Err.ensures.only c.in-Err.ensures.unkept c.in-Err.ensures.ends

pub returns-in-Err-talk-clause-goes : goal.returns-in-Err-talk-clause-goes
returns-in-Err-talk-clause-goes g c =
    ask_failed g.C.Conversation.course _ _ _ _ _ _ c.in-Err-talk.end c.requires c.in-Ok.ensures.only c.in-Ok.ensures.kept c.in-Err-talk.ensures.only c.in-Ok.ensures.run c.in-Err-talk.ensures.broke

pub close-requires : goal.close-requires
close-requires g c = asks_nothing g.C.Conversation.course g.met.C.Conversation.laws _ _ _ _ _ c.in-Ok-talk.ensures.driven

pub returns-clause-goes : goal.returns-clause-goes
returns-clause-goes g c =
    ends_closed g.C.Conversation.course g.met.C.Conversation.laws _ _ _ _ _ _ _ _ _ _ c.requires c.in-Ok.ensures.only c.in-Ok.ensures.kept c.in-Ok.ensures.run c.in-Ok-talk.ensures.only
    c.in-Ok-talk.ensures.driven c.close.ensures.only c.close.ensures.closes
