use Rattle.std.proofs.Common.{◌≡◌, sym, ◌∙◌, ap, subst}
use Rattle.dory_shelf.specs.Published.{Published, Grew, IsLawful, MayFollow, with_event}
use Rattle.dory_shelf.specs.Ops.{event_of}
use Rattle.dory_shelf.proofs.Growing.{grew_snoc, lawful_snoc}
use Rattle.dory_shelf.proofs.Shelving.{stored_of}
use Rattle.dory_shelf.proofs.writer.ShelfWriter.append.Goals as goal

pub add-requires-clause-lawful : goal.add-requires-clause-lawful
add-requires-clause-lawful g c =
    subst (λ (x : Published). MayFollow x (event_of c.args.op)) (sym (c.again-front.ensures.value ∙ ap (λ x. x.known) c.self.view_is)) c.requires.lawful

pub invariant_of-self : goal.invariant_of-self
invariant_of-self g c =
    let s = c.self.invariant in
    let k = c.self.inside.front in
    let event = event_of c.args.op in
    let made = c.add.new.self in
    let is : made ≡ with_event k event = c.if-not-add.ensures ∙ ap (λ (x : Published). with_event x event) c.again-front.ensures.value in
    let grew : Grew k made = subst (λ (x : Published). Grew k x) (sym is) (grew_snoc k event) in
    let may : MayFollow k event = subst (λ (x : Published). MayFollow x event) (ap (λ x. x.known) (sym c.self.view_is)) c.requires.lawful in
    let lawful : IsLawful made = subst IsLawful (sym is) (lawful_snoc k event (subst IsLawful c.again-front.ensures.value c.again-front.ensures.lawful) may) in
    let change = c.change_of.ensures in
    (s.0, s.1, s.2, s.3, (subst (λ (x : Published). Grew k x) (sym change.front) grew, subst IsLawful (sym change.front) lawful, stored_of made k c.change_of.result.stored grew.0 change.stored))
