use Rattle.std.proofs.Common.{◌≡◌, ◌≤◌}
use Rattle.dory_drive.specs.Driven.{WentOn}
use Rattle.dory_drive.specs.Scene.{OnlyLinks}
use Rattle.dory_drive.specs.Way.{scene_links}
use Rattle.dory_drive.proofs.driving.talk.Given as goal

abbrev pub invariant-loop-side : goal.invariant-loop-side
invariant-loop-side g l = record {
  lent : g.W.Outside.lent l.outside ≡ g.W.Outside.lent l.fn.outside;
  only : OnlyLinks (g.W.Outside.scene l.fn.outside) (g.W.Outside.scene l.outside);
  goes : WentOn g.C.Conversation.course (g.C.Conversation.run l.fn.conversation) (scene_links (g.W.Outside.scene l.fn.outside)) (scene_links (g.W.Outside.scene l.outside)) (g.C.Conversation.run l.conversation) (g.C.Conversation.unsaved l.conversation);
  lead : (g.W.Outside.scene l.fn.outside).faults.lead ≤ (g.W.Outside.scene l.outside).faults.lead;
  follow : (g.W.Outside.scene l.fn.outside).faults.follow ≤ (g.W.Outside.scene l.outside).faults.follow;
}

-- the asks that are left at most
abbrev pub decreases-loop-side : goal.decreases-loop-side
decreases-loop-side g l = g.C.Conversation.course.left (g.C.Conversation.run l.conversation)
