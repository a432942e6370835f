use Rattle.std.proofs.Common.{arith, ◌∙◌, ℕ, length, Option, Ok, Vec, Global, ap, subst}
use Rattle.std.proofs.lemmas.List.{length-append}
use Rattle.dory_wire.specs.Cut.{TakesOut}
use Rattle.dory_wire.proofs.Cuts.{front_none}
use Rattle.dory_session.proofs.Coming.{stopped_since}
use Rattle.dory_session.proofs.intake.next_message.Goals as goal

pub loop-message-smaller : goal.loop-message-smaller
loop-message-smaller g c =
    let none = subst (λ (found : Option (Vec ℕ Global)). TakesOut c.loop-message.framer c.next_message.new.self (Ok found)) c.in-Ok-None.field-0-is c.in-Ok-None.ensures.takes in
    let more = c.in-Ok.ensures.more in
    omega (arith, ap length none.1, front_none c.loop-message.framer none.0, ap length more.2.0, length-append c.next_message.new.self more.0, more.2.1)

pub returns-in-Err-clause-next : goal.returns-in-Err-clause-next
returns-in-Err-clause-next g c =
    let none = subst (λ (found : Option (Vec ℕ Global)). TakesOut c.loop-message.framer c.next_message.new.self (Ok found)) c.in-Ok-None.field-0-is c.in-Ok-None.ensures.takes in
    let before = c.loop-message.invariant.more in
    let more = c.in-Err.ensures.more in
    stopped_since c.in-Err.how c.args.framer.now before.0 c.next_message.new.self more.0 _ _ _ _ _ _ before.1 (none.1 ∙ before.2) more.1 more.2
