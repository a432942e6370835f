use Rattle.std.proofs.Common.{refl, subst, Option, Some}
use Rattle.dory_member.specs.Course.{asks}
use Rattle.dory_member.specs.declared.phase.Run.{Run}
use Rattle.dory_world.specs.Steps.{IsDue, WentOn}
use Rattle.dory_world.specs.declared.asking.Asking.{Asking}
use Rattle.dory_world.proofs.Members.{goes_by_ask}
use Rattle.dory_world.proofs.asking.go_on.Goals as goal

pub returns : goal.returns
returns c =
    let run : Run = c.saved-member.result.run in
    let due : IsDue run (asks run.phase) (Some c.in-Some.asking) = subst (λ (o : Option Asking). IsDue run (asks run.phase) o) c.in-Some.is c.in_ok-asking.ensures in
    subst (λ (r : Run). WentOn c.args.m r c.args.members.now.items c.args.messages.now.items c.in_ok-line.line c.put_ask.new.members.items c.put_ask.new.messages.items) c.saved-member.ensures.run
    (goes_by_ask c.args.m run c.args.members.now.items c.args.messages.now.items c.in-Some.asking (asks run.phase) refl due c.in_ok-line.line c.put_ask.new.members.items c.put_ask.new.messages.items
    c.in_ok-line.ensures.members c.in_ok-line.ensures.messages c.in_ok-line.ensures.line)
