use Rattle.std.proofs.Common.{◌≡◌, ◌+◌, List, Some, Option, refl, sym, subst, arith}
use Rattle.std.specs.Prelude.{slice_get}
use Rattle.dory_run.specs.Happening.{happens}
use Rattle.dory_run.specs.declared.event.Event.{Event}
use Rattle.dory_run.specs.declared.line.WorldLine.{WorldLine}
use Rattle.dory_world.proofs.Rounds.{Underway, begins, goes_on, of_folder, stops}
use Rattle.dory_world.proofs.Sets.{there}
use Rattle.dory_world.specs.Plays.{ComesTo, Shown, shown}
use Rattle.dory_world.proofs.playing.run.Goals as goal

pub loop-i-init : goal.loop-i-init
loop-i-init g c =
    let w = c.args.world.now in
    let first : Shown = shown w.members.items w.lead.folders w.follow.folders w.messages.items in
    subst (λ (lines : List WorldLine). Underway c.args.honest c.args.setup.now c.args.events.now 0 lines first) (sym c.new-lines.ensures)
    (begins c.args.honest c.args.setup.now c.args.events.now first c.requires.start)

pub returns-in-None : goal.returns-in-None
returns-in-None g c =
    let before = c.loop-i.world in
    let after = c.happen.new.world in
    let w : Shown = shown before.members.items before.lead.folders before.follow.folders before.messages.items in
    let now : Shown = shown after.members.items after.lead.folders after.follow.folders after.messages.items in
    let u = c.loop-i.invariant in
    let e : Event = c.index-events-i.result in
    let at : slice_get c.args.events.now c.loop-i.i ≡ Some e = there c.args.events.now c.loop-i.i e (omega arith) c.index-events-i.is in
    let comes : ComesTo c.args.setup.now.folder.0 (happens c.args.honest c.args.setup.now u.moment.world e) u.moment.world c.in_ok-line.field-0 now =
    c.in_ok-line.ensures u.moment.world u.world (of_folder c.args.honest c.args.setup.now c.args.events.now c.requires.setup c.loop-i.i u.moment u.now) in
    stops c.args.honest c.args.setup.now c.args.events.now c.loop-i.i c.loop-i.lines w now e u at (happens c.args.honest c.args.setup.now u.moment.world e) refl
    (subst (λ (o : Option WorldLine). ComesTo c.args.setup.now.folder.0 (happens c.args.honest c.args.setup.now u.moment.world e) u.moment.world o now) c.in-None.is comes)

pub loop-i-preserved : goal.loop-i-preserved
loop-i-preserved g c =
    let before = c.loop-i.world in
    let after = c.happen.new.world in
    let w : Shown = shown before.members.items before.lead.folders before.follow.folders before.messages.items in
    let now : Shown = shown after.members.items after.lead.folders after.follow.folders after.messages.items in
    let u = c.loop-i.invariant in
    let e : Event = c.index-events-i.result in
    let at : slice_get c.args.events.now c.loop-i.i ≡ Some e = there c.args.events.now c.loop-i.i e (omega arith) c.index-events-i.is in
    let comes : ComesTo c.args.setup.now.folder.0 (happens c.args.honest c.args.setup.now u.moment.world e) u.moment.world c.in_ok-line.field-0 now =
    c.in_ok-line.ensures u.moment.world u.world (of_folder c.args.honest c.args.setup.now c.args.events.now c.requires.setup c.loop-i.i u.moment u.now) in
    subst (λ (lines : List WorldLine). Underway c.args.honest c.args.setup.now c.args.events.now (c.loop-i.i + 1) lines now) (sym c.in_ok-push-in-Some.ensures)
    (goes_on c.args.honest c.args.setup.now c.args.events.now c.loop-i.i c.loop-i.lines w now e c.in-Some.line u at (happens c.args.honest c.args.setup.now u.moment.world e) refl
    (subst (λ (o : Option WorldLine). ComesTo c.args.setup.now.folder.0 (happens c.args.honest c.args.setup.now u.moment.world e) u.moment.world o now) c.in-Some.is comes))
