use Rattle.std.proofs.Common.{◌≡◌, ◌≤◌, ◌<◌, ap, ◌∙◌, sym, subst, rules, refl, arith, inl, inr, Some, None, Ok, Err}
use Rattle.dory_shared.specs.Seen.{Seen, IsKept, folder_as, held_of, knowing}
use Rattle.std.specs.Arc.{arc_value}
use Rattle.dory_base.specs.declared.event.Event.TheVariants.{Appended}
use Rattle.dory_base.specs.Log.{Log, staged_as}
use Rattle.dory_base.specs.Step.{log_of}
use Rattle.dory_base.specs.TableMeaning.{Kept, kept_of}
use Rattle.dory_log.specs.Spared.{MayCommit}
use Rattle.dory_shelf.specs.Published.{Published, IsLawful, folder_of, history_of, with_event}
use Rattle.dory_shared.proofs.Making.{next_room, next_change, next_stands}
use Rattle.dory_shared.proofs.cabinet.Cabinet.next.Goals as goal

pub next_uncounted-requires-clause-room : goal.next_uncounted-requires-clause-room
next_uncounted-requires-clause-room g c =
    let newest : c.deref.result.now ≡ kept_of c.args.self.now.known.shelf.shape (history_of c.args.self.now.known) = search rules in
    next_room c.args.self.now.role c.args.self.now.known c.args.number c.args.id c.deref.result.now c.requires.fresh newest

pub next_uncounted-requires-clause-change : goal.next_uncounted-requires-clause-change
next_uncounted-requires-clause-change g c =
    let h : Published = c.self.inside.writer.known in
    let newest : c.deref.result.now ≡ kept_of c.args.self.now.known.shelf.shape (history_of c.args.self.now.known) = search rules in
    let here : staged_as c.self.inside.log.log.staged c.args.id ≡ Some (arc_value c.in_ok-update.update) = search rules in
    let there : staged_as (folder_of h).staged c.args.id ≡ Some (arc_value c.in_ok-update.update) = sym (ap (λ (l : Log). staged_as l.staged c.args.id) c.self.invariant.2) ∙ here in
    next_change h c.args.id (arc_value c.in_ok-update.update) c.deref.result.now
    (subst (λ (s : Seen). IsLawful s.known) (sym c.self.view_is) c.requires.lawful) there
    (subst (λ (s : Seen). c.deref.result.now ≡ kept_of s.known.shelf.shape (history_of s.known)) (sym c.self.view_is) newest)

pub returns : goal.returns
returns g c =
    let h : Published = c.self.inside.writer.known in
    let newest : c.deref.result.now ≡ kept_of c.args.self.now.known.shelf.shape (history_of c.args.self.now.known) = search rules in
    let here : staged_as c.self.inside.log.log.staged c.args.id ≡ Some (arc_value c.in_ok-update.update) = search rules in
    let there : staged_as (folder_of h).staged c.args.id ≡ Some (arc_value c.in_ok-update.update) = sym (ap (λ (l : Log). staged_as l.staged c.args.id) c.self.invariant.2) ∙ here in
    let same : arc_value c.in_ok-version.version ≡ c.in_ok-next.next = search rules in
    subst (λ (s : Seen). arc_value c.in_ok-version.version ≡ kept_of s.known.shelf.shape (history_of (with_event s.known (Appended c.args.id)))) c.self.view_is
    (same ∙ next_stands h c.args.id (arc_value c.in_ok-update.update) c.deref.result.now c.in_ok-next.next there
    (subst (λ (s : Seen). c.deref.result.now ≡ kept_of s.known.shelf.shape (history_of s.known)) (sym c.self.view_is) newest)
    c.in_ok-next.ensures.value c.in_ok-next.ensures.stands)
