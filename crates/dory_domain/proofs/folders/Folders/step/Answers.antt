use Rattle.std.proofs.Common.{◌≡◌, List, Option, Some, None, position, ap, ◌∙◌, sym, subst, refl}
use Rattle.std.specs.Prelude.{slice_set}
use Rattle.dory_base.specs.declared.refusal.Refusal.TheVariants.{NoFolder}
use Rattle.dory_wire.specs.declared.message.What.TheVariants.{Refused}
use Rattle.dory_domain.specs.Held.{Held, is_folder, folder_in, ServesBy, Serves, KeptIfRefused}
use Rattle.dory_domain.proofs.HeldLaws.{serves_at, absent_at, held_at, kept_at}
use Rattle.dory_domain.proofs.folders.Folders.step.Goals as goal

pub returns-in-Some-clause-serves : goal.returns-in-Some-clause-serves
returns-in-Some-clause-serves g c =
    let folders : List Held = c.self.inside.folders.items in
    let at : position (is_folder c.args.folder.0) folders ≡ Some c.in-Some.at = ap (position (is_folder c.args.folder.0)) c.self.view_is ∙ sym c.place.ensures ∙ c.in-Some.is in
    subst (λ (fs : List Held). Serves fs c.args.folder.0 c.args.want.now c.step.result (slice_set folders c.in-Some.at c.step.new.self)) c.self.view_is
    (serves_at c.args.folder.0 folders c.in-Some.at c.index_mut.result.now c.step.new.self c.args.want.now c.step.result at c.index_mut.ensures.value c.step.ensures.number c.step.ensures.steps)

pub returns-in-Some-clause-held : goal.returns-in-Some-clause-held
returns-in-Some-clause-held g c = λ f there.
    let folders : List Held = c.self.inside.folders.items in
    let at : position (is_folder c.args.folder.0) folders ≡ Some c.in-Some.at = ap (position (is_folder c.args.folder.0)) c.self.view_is ∙ sym c.place.ensures ∙ c.in-Some.is in
    held_at c.args.folder.0 folders c.in-Some.at c.index_mut.result.now at c.index_mut.ensures.value c.step.ensures.held f (ap (λ (fs : List Held). folder_in fs c.args.folder.0) c.self.view_is ∙ there)

pub returns-in-Some-clause-unchanged : goal.returns-in-Some-clause-unchanged
returns-in-Some-clause-unchanged g c =
    let folders : List Held = c.self.inside.folders.items in
    subst (λ (fs : List Held). KeptIfRefused fs (slice_set folders c.in-Some.at c.step.new.self) c.step.result) c.self.view_is
    (kept_at folders c.in-Some.at c.index_mut.result.now c.step.new.self c.args.want.now c.step.result c.index_mut.ensures.value c.step.ensures.number c.step.ensures.steps)

pub returns-in-None-clause-serves : goal.returns-in-None-clause-serves
returns-in-None-clause-serves g c =
    let absent : folder_in c.args.self.now c.args.folder.0 ≡ None = absent_at c.args.folder.0 c.args.self.now (sym c.place.ensures ∙ c.in-None.is) in
    subst (λ (o : Option Held). ServesBy o c.args.self.now c.args.folder.0 c.args.want.now (Refused NoFolder) c.args.self.now) (sym absent) (refl, refl)

pub returns-in-None-clause-held : goal.returns-in-None-clause-held
returns-in-None-clause-held g c = λ f there.
    let absent : folder_in c.args.self.now c.args.folder.0 ≡ None = absent_at c.args.folder.0 c.args.self.now (sym c.place.ensures ∙ c.in-None.is) in
    let e : ◌≡◌ {A = Option Held} None (Some f) = sym absent ∙ there in
    absurd cc
