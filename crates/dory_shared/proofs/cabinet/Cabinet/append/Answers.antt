use Rattle.std.proofs.Common.{◌≡◌, ◌≤◌, ◌<◌, ap, ◌∙◌, sym, subst, rules, refl, arith, inl, inr, Some, None, Ok, Err}
use Rattle.dory_shared.specs.Seen.{Seen, IsKept, folder_as, held_of, knowing}
use Rattle.dory_base.specs.declared.event.Event.TheVariants.{Appended}
use Rattle.dory_base.specs.Log.{Log}
use Rattle.dory_base.specs.Step.{log_of, log_after}
use Rattle.dory_log.specs.Spared.{Spared, MayCommit}
use Rattle.dory_shelf.specs.Published.{Shelf, Published, MayFollow, with_event}
use Rattle.dory_shared.proofs.Folding.{log_goes_on}
use Rattle.dory_shared.proofs.Holding.{kept_later}
use Rattle.dory_shared.proofs.Making.{may_commit}
use Rattle.dory_shared.proofs.cabinet.Cabinet.append.Goals as goal

pub append-requires-clause-lawful : goal.append-requires-clause-lawful
append-requires-clause-lawful g c =
    may_commit c.self.inside.role c.self.inside.writer.known c.args.number c.args.id
    (subst (λ (s : Seen). MayCommit (log_of (folder_as s.role s.known)) c.args.number c.args.id) (sym c.self.view_is) c.requires.fresh)

pub put_commit-requires-clause-fresh : goal.put_commit-requires-clause-fresh
put_commit-requires-clause-fresh g c =
    subst (λ (l : Log). MayCommit l c.args.number c.args.id) (sym (c.in_ok-reserve.ensures.log ∙ c.self.invariant.2))
    (subst (λ (s : Seen). MayCommit (log_of (folder_as s.role s.known)) c.args.number c.args.id) (sym c.self.view_is) c.requires.fresh)

pub invariant_of-self-2 : goal.invariant_of-self-2
invariant_of-self-2 g c =
    let h : Published = c.self.inside.writer.known in
    let pending : Some c.publish.new.self.known ≡ Some (with_event h (Appended c.args.id)) = c.publish.ensures.known ∙ c.in_ok-append.ensures.pending in
    let now : c.publish.new.self.known ≡ with_event h (Appended c.args.id) = cc pending in
    let log : c.put_commit.new.self.log ≡ log_of (folder_as c.self.inside.role (with_event h (Appended c.args.id))) =
    log_goes_on c.self.inside.role h (Appended c.args.id) c.reserve.new.self.log c.put_commit.new.self.log (c.in_ok-reserve.ensures.log ∙ c.self.invariant.2) (ap (λ (s : Spared). s.log) c.put_commit.ensures) in (
      c.publish.ensures.pending,
      kept_later h c.publish.new.self.known (ap (λ (k : Published). k.shelf) now) c.self.invariant.1,
      subst (λ (k : Published). c.put_commit.new.self.log ≡ log_of (folder_as c.self.inside.role k)) (sym now) log,
    )
