use Rattle.std.proofs.Common.{◌≡◌, ◌≤◌, ◌<◌, ap, ◌∙◌, sym, subst, rules, refl, arith, inl, inr, Some, None, Ok, Err}
use Rattle.dory_shared.specs.Seen.{Seen, IsKept, folder_as, held_of, knowing}
use Rattle.std.specs.Arc.{arc_value}
use Rattle.dory_base.specs.declared.entry.Entry.{Entry}
use Rattle.dory_base.specs.declared.plan.StagePlan.TheVariants.{New}
use Rattle.dory_base.specs.declared.event.Event.TheVariants.{Staged}
use Rattle.dory_base.specs.Log.{Log, look_stage}
use Rattle.dory_base.specs.Step.{log_of, log_after}
use Rattle.dory_log.specs.Spared.{Spared}
use Rattle.dory_shelf.specs.Published.{Shelf, Published, MayFollow, with_event}
use Rattle.dory_shared.proofs.Folding.{log_goes_on}
use Rattle.dory_shared.proofs.Holding.{kept_later}
use Rattle.dory_shared.proofs.Making.{may_stage}
use Rattle.dory_shared.proofs.cabinet.Cabinet.keep.Goals as goal

pub append-requires-clause-lawful : goal.append-requires-clause-lawful
append-requires-clause-lawful g c =
    let same : arc_value c.in_ok-shared.shared ≡ c.args.entry.now = search rules in
    subst (λ (e : Entry). MayFollow c.self.inside.writer.known (Staged e)) (sym same)
    (may_stage c.self.inside.role c.self.inside.writer.known c.args.entry.now
    (subst (λ (s : Seen). look_stage (log_of (folder_as s.role s.known)) c.args.entry.now ≡ Ok New) (sym c.self.view_is) c.requires.fresh)
    c.requires.range)

pub put_staged-requires-clause-new : goal.put_staged-requires-clause-new
put_staged-requires-clause-new g c =
    let same : arc_value c.in_ok-copy-2.copy ≡ c.args.entry.now = search rules in
    ap (λ (l : Log). look_stage l (arc_value c.in_ok-copy-2.copy)) (c.in_ok-reserve.ensures.log ∙ c.self.invariant.2)
    ∙ ap (look_stage (log_of (folder_as c.self.inside.role c.self.inside.writer.known))) same
    ∙ subst (λ (s : Seen). look_stage (log_of (folder_as s.role s.known)) c.args.entry.now ≡ Ok New) (sym c.self.view_is) c.requires.fresh

pub invariant_of-self-2 : goal.invariant_of-self-2
invariant_of-self-2 g c =
    let e : Entry = arc_value c.in_ok-copy-2.copy in
    let h : Published = c.self.inside.writer.known in
    let same : arc_value c.in_ok-shared.shared ≡ e = search rules in
    let pending : Some c.publish.new.self.known ≡ Some (with_event h (Staged (arc_value c.in_ok-shared.shared))) = c.publish.ensures.known ∙ c.in_ok-append.ensures.pending in
    let at : c.publish.new.self.known ≡ with_event h (Staged (arc_value c.in_ok-shared.shared)) = cc pending in
    let now : c.publish.new.self.known ≡ with_event h (Staged e) = at ∙ ap (λ (x : Entry). with_event h (Staged x)) same in
    let log : c.put_staged.new.self.log ≡ log_of (folder_as c.self.inside.role (with_event h (Staged e))) =
    log_goes_on c.self.inside.role h (Staged e) c.reserve.new.self.log c.put_staged.new.self.log (c.in_ok-reserve.ensures.log ∙ c.self.invariant.2) (ap (λ (s : Spared). s.log) c.put_staged.ensures) in (
      c.publish.ensures.pending,
      kept_later h c.publish.new.self.known (ap (λ (k : Published). k.shelf) now) c.self.invariant.1,
      subst (λ (k : Published). c.put_staged.new.self.log ≡ log_of (folder_as c.self.inside.role k)) (sym now) log,
    )
