use Rattle.std.proofs.Common.{◌≡◌, ◌++◌, ◌∷◌, [], List, ap, ◌∙◌, sym, subst, arith, rules}
use Rattle.std.specs.Arc.{arc_value}
use Rattle.dory_base.specs.declared.entry.Entry.{Entry}
use Rattle.dory_base.specs.Log.{Log}
use Rattle.dory_base.specs.Step.{log_of, log_after}
use Rattle.dory_base.specs.declared.event.Event.TheVariants.{Appended}
use Rattle.dory_base.specs.TableMeaning.{Kept, StandsFor}
use Rattle.dory_base.proofs.TableLaws.{number_stands}
use Rattle.dory_log.specs.Spared.{Spared, MayCommit}
use Rattle.dory_domain.specs.Held.{Held}
use Rattle.dory_domain.specs.Versions.{AreLast, Last, with_next}
use Rattle.dory_domain.proofs.StepHeld.{AreParts, by_parts, parts_appended, next_fits}
use Rattle.dory_domain.proofs.VersionLaws.{versions_next}
use Rattle.dory_domain.proofs.folder.Folder.append.Goals as goal

pub next_uncounted-requires-clause-room : goal.next_uncounted-requires-clause-room
next_uncounted-requires-clause-room c =
    let fits = next_fits (by_parts c.self.inside.folder.0 c.self.inside.versions.shape c.self.inside.versions.retained c.self.inside.history c.self.inside.log.log) c.args.number c.args.id (arc_value c.in_ok-update.update) c.self.invariant.0
    (subst (λ (f : Held). MayCommit (log_of f.state) c.args.number c.args.id) (sym c.self.view_is) c.requires.fresh)
    (search rules) in
    omega (arith, number_stands c.newest.result.now c.self.inside.history (c.newest.ensures.stands c.self.inside.history c.self.invariant.2), fits.0)

pub invariant_of-self-2 : goal.invariant_of-self-2
invariant_of-self-2 c =
    let e : Entry = arc_value c.in_ok-update.update in
    let last : Last = c.self.inside.versions in
    let parts =
    parts_appended c.self.inside.folder.0 last.shape last.retained c.self.inside.history c.push.new.self c.self.inside.log.log c.put_commit.new.self.log c.args.number c.args.id e (c.self.invariant.0, c.self.invariant.1)
    (subst (λ (f : Held). MayCommit (log_of f.state) c.args.number c.args.id) (sym c.self.view_is) c.requires.fresh)
    (ap (λ (s : Spared). s.log) c.put_commit.ensures ∙ ap (λ (l : Log). log_after l (Appended c.args.id)) c.in_ok-reserve.ensures.log)
    (search rules)
    c.in_ok-push.ensures.done in
    let shape : c.in_ok-next.next.shape ≡ last.shape = ap (λ (t : Kept). t.shape) c.in_ok-next.ensures.value ∙ c.newest.ensures.shape in
    let stands : StandsFor c.in_ok-next.next (c.self.inside.history ++ e ∷ []) =
    subst (λ (x : Entry). StandsFor c.in_ok-next.next (c.self.inside.history ++ x ∷ [])) (search rules) (c.in_ok-next.ensures.stands c.self.inside.history (c.newest.ensures.stands c.self.inside.history c.self.invariant.2)) in
    let versions : AreLast (c.self.inside.history ++ e ∷ []) (with_next last c.in_ok-next.next) =
    versions_next last.shape last.retained c.self.inside.history e last.versions c.in_ok-next.next c.self.invariant.0.some c.self.invariant.2 shape stands in
    let now : AreLast c.push.new.self (with_next last c.in_ok-next.next) = subst (λ (h : List Entry). AreLast h (with_next last c.in_ok-next.next)) (sym c.in_ok-push.ensures.done) versions in
    let whole = subst (λ (l : Last). AreParts c.self.inside.folder.0 l.shape l.retained c.push.new.self c.put_commit.new.self.log × AreLast c.push.new.self l) (sym c.push-2.ensures) ((parts.0, parts.1), now) in
    (whole.0.0, whole.0.1, whole.1)
