use Rattle.std.proofs.Common.{refl}
use Rattle.dory_drive.specs.Driven.{SaveFailed}
use Rattle.dory_drive.proofs.Finishing.{closes_well}
use Rattle.dory_drive.proofs.driving.close.Goals as goal

pub returns-in-Err-clause-closes : goal.returns-in-Err-clause-closes
returns-in-Err-clause-closes g c = SaveFailed c.in-Err.end c.in-Err.ensures.due c.in-Err.ensures.unkept c.in-Err.ensures.ends refl

pub returns-clause-closes : goal.returns-clause-closes
returns-clause-closes g c = closes_well g.C.Conversation.course _ _ _ _ _ _ c.in-Some.outcome.now c.in-Ok.ensures.kept c.in-Ok.ensures.run c.in-Ok.ensures.saved c.in-Some.ensures
