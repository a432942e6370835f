use Rattle.std.proofs.Common.{◌≡◌, ◌∙◌, sym, subst, List, Some, true}
use Rattle.std.specs.Prelude.{slice_get}
use Rattle.dory_member.specs.Machine.{IsRefused, began}
use Rattle.dory_member.specs.declared.outcome.Fault.{Fault}
use Rattle.dory_run.specs.World.{Station}
use Rattle.dory_run.specs.Happening.{fits}
use Rattle.dory_world.proofs.Begun.{begun_comes, refused_comes}
use Rattle.dory_world.specs.Places.{idle_in}
use Rattle.dory_world.specs.Plays.{shown}
use Rattle.dory_world.proofs.stepping.begin.Goals as goal

pub returns-in_ok-line-in-Ok : goal.returns-in_ok-line-in-Ok
returns-in_ok-line-in-Ok g c = λ v is.
    let w = c.args.world.now in
    let items : List Station = c.args.world.now.members.items in
    let at : slice_get items c.args.m.0 ≡ Some c.in-Some.place.now = cc (c.deref.ensures.value, c.in-Some.ensures) in
    let idle : idle_in c.in-Some.place.now ≡ Some c.in-Some-kept.kept.now = cc c.in-Some-kept.ensures.value in
    let fit : fits c.in-Some-kept.kept.now.shape c.args.command.now ≡ true = sym c.fits.ensures ∙ c.if-not-fits.false in
    begun_comes c.args.setup.now.folder.0 c.args.setup.now (shown w.members.items w.lead.folders w.follow.folders w.messages.items) v c.args.m c.args.command.now c.in_ok-command.command c.in-Some-kept.kept.now c.in_ok-kept.kept
    c.in-Some.place.now c.seed_of.result c.in-Ok.member c.in_ok-line-in-Ok.line c.go_on.new.members.items c.go_on.new.messages.items is at idle fit
    c.in_ok-kept.ensures c.in_ok-command.ensures c.seed_of.ensures c.in-Ok.ensures c.in_ok-line-in-Ok.ensures

pub returns-in_ok-fault-in-Err : goal.returns-in_ok-fault-in-Err
returns-in_ok-fault-in-Err g c = λ v is.
    let w = c.args.world.now in
    let items : List Station = c.args.world.now.members.items in
    let at : slice_get items c.args.m.0 ≡ Some c.in-Some.place.now = cc (c.deref.ensures.value, c.in-Some.ensures) in
    let idle : idle_in c.in-Some.place.now ≡ Some c.in-Some-kept.kept.now = cc c.in-Some-kept.ensures.value in
    let fit : fits c.in-Some-kept.kept.now.shape c.args.command.now ≡ true = sym c.fits.ensures ∙ c.if-not-fits.false in
    let refused : IsRefused c.in_ok-fault-in-Err.fault (began c.in_ok-kept.kept c.seed_of.result c.in_ok-command.command) =
    subst (λ (f : Fault). IsRefused f (began c.in_ok-kept.kept c.seed_of.result c.in_ok-command.command)) (sym c.in_ok-fault-in-Err.ensures.0) c.in-Err.ensures in
    refused_comes c.args.setup.now.folder.0 c.args.setup.now (shown w.members.items w.lead.folders w.follow.folders w.messages.items) v c.args.m c.args.command.now c.in_ok-command.command c.in-Some-kept.kept.now c.in_ok-kept.kept
    c.in-Some.place.now c.seed_of.result c.in_ok-fault-in-Err.fault is at idle fit c.in_ok-kept.ensures c.in_ok-command.ensures c.seed_of.ensures refused c.in_ok-fault-in-Err.ensures.1
