use Rattle.std.proofs.Common.{◌≡◌, ◌∙◌, sym, ap, subst, List, ℕ, Some, Option, true, ◌⊎◌}
use Rattle.std.specs.Prelude.{slice_get}
use Rattle.dory_base.specs.declared.ids.Side.{Side}
use Rattle.dory_member.specs.Machine.{ran_out, reply_taken}
use Rattle.dory_run.specs.World.{Replied}
use Rattle.dory_run.specs.Happening.{same_side}
use Rattle.dory_world.proofs.Begun.{returned_comes}
use Rattle.dory_world.specs.Places.{awaited_in}
use Rattle.dory_world.specs.Plays.{shown}
use Rattle.dory_world.specs.Notes.{message_of}
use Rattle.dory_world.proofs.stepping.give_back.Goals as goal

pub returns : goal.returns
returns g c = λ folder v is.
    let w = c.args.world.now in
    let put : slice_get c.args.world.now.messages.items c.args.number ≡ Some (Replied c.in-Replied.side c.in-Replied.member c.in-Replied.frame) =
    let look : slice_get c.args.world.now.messages.items c.args.number ≡ Some c.in-Some.note.now = cc (c.deref.ensures.value, c.in-Some.ensures) in
    let e : c.in-Some.note.now ≡ Replied c.in-Replied.side c.in-Replied.member c.in-Replied.frame = sym c.note.view_is ∙ ap message_of c.in-Replied.is in
    look ∙ ap Some e in
    let waits : ◌≡◌ {A = Option Side} (Some c.in-Some-awaited.waited) (awaited_in (slice_get c.args.world.now.members.items c.in-Replied.member.0)) = cc (c.deref-2.ensures.value, c.in-Some-awaited.ensures) in
    let same : same_side c.in-Some-awaited.waited c.in-Replied.side ≡ true = sym c.same_side.ensures ∙ c.if-not-same_side.false in
    let takes : (c.take_reply.new.self ≡ reply_taken c.in-Some-2.member c.in-Replied.frame) ⊎ (c.take_reply.new.self ≡ ran_out c.in-Some-2.member) =
    subst (λ (bytes : List ℕ). (c.take_reply.new.self ≡ reply_taken c.in-Some-2.member bytes) ⊎ (c.take_reply.new.self ≡ ran_out c.in-Some-2.member)) c.items.ensures c.take_reply.ensures in
    returned_comes folder (shown w.members.items w.lead.folders w.follow.folders w.messages.items) v c.args.number c.in-Replied.side c.in-Some-awaited.waited c.in-Replied.member c.in-Replied.frame c.in-Some-2.member c.take_reply.new.self
    c.taken.new.members.items c.in_ok-line.line c.go_on.new.members.items c.go_on.new.messages.items c.in_ok-member.field-0 is put waits same c.in-Some-2.is c.in_ok-member.ensures takes c.in_ok-line.ensures
