use Rattle.std.proofs.Common.{rules, ◌≤◌, Some, None, Ok, Err, refl, sym, ◌∙◌, ap, subst, arith}
use Rattle.dory_journal.proofs.Loads.{first_loaded, loads_fault, past_end}
use Rattle.dory_journal.proofs.Moments.{quiet_start, quiet_then}
use Rattle.dory_journal.proofs.load.load.Goals as goal
use Rattle.dory_journal.specs.Reading.{IsLoaded, StepsAs}
use Rattle.dory_journal.specs.Recording.{IsAt}

pub loop-gate-init : goal.loop-gate-init
loop-gate-init g c = record {
  loaded = λ b told. subst (λ log. IsLoaded c.args.folder.0 c.args.role c.args.log.now.log.shape log 0 b) (sym c.requires.empty) (first_loaded c.args.folder.0 c.args.role c.args.log.now.log.shape b);
  role = ap (λ l. l.role) c.requires.empty;
  shape = refl;
  within = omega arith;
  quiet = quiet_start g.D.Disk.told g.D.Disk.may_leave g.D.Disk.moment g.D.Disk.left_since c.args.disk.now (g.met.D.Disk.only_now c.args.disk.now);
  faults = omega arith;
}

pub returns-in-Err-clause-loads : goal.returns-in-Err-clause-loads
returns-in-Err-clause-loads g c = λ b told.
    let i = c.loop-gate.invariant in
    let is = subst (λ s. IsLoaded c.args.folder.0 c.args.role s c.loop-gate.log.log c.loop-gate.gate b) (sym i.shape) (i.loaded b told) in
    let steps = c.in-Err.ensures.steps b (i.quiet.same ∙ told) is in
    loads_fault c.args.folder.0 c.args.role c.args.log.now.log.shape c.step.new.log.log c.loop-gate.gate b c.in-Err.fault
    (subst (λ s. StepsAs c.args.folder.0 c.args.role s c.step.new.log.log c.loop-gate.gate b (Err c.in-Err.fault)) i.shape steps)

pub returns-in-Ok-None-clause-loads : goal.returns-in-Ok-None-clause-loads
returns-in-Ok-None-clause-loads g c = λ b told.
    let i = c.loop-gate.invariant in
    let is = subst (λ s. IsLoaded c.args.folder.0 c.args.role s c.loop-gate.log.log c.loop-gate.gate b) (sym i.shape) (i.loaded b told) in
    let steps : StepsAs c.args.folder.0 c.args.role c.loop-gate.log.log.shape c.step.new.log.log c.loop-gate.gate b (Ok None) =
    subst (λ o. StepsAs c.args.folder.0 c.args.role c.loop-gate.log.log.shape c.step.new.log.log c.loop-gate.gate b (Ok o)) c.in-Ok-None.field-0-is (c.in-Ok-None.ensures.steps b (i.quiet.same ∙ told) is) in
    subst (λ s. IsAt c.args.folder.0 c.args.role s c.step.new.log.log c.loop-gate.gate b) i.shape steps

pub loop-gate-preserved : goal.loop-gate-preserved
loop-gate-preserved g c =
    let i = c.loop-gate.invariant in
    let next : c.in-Ok-Some.next ≤ c.args.length = search rules in
    let faults : g.D.Disk.faults c.args.disk.now ≤ g.D.Disk.faults c.step.new.disk = omega (arith, i.faults, c.step.ensures.cause.later) in
    record {
      loaded = λ b told.
          let is = subst (λ s. IsLoaded c.args.folder.0 c.args.role s c.loop-gate.log.log c.loop-gate.gate b) (sym i.shape) (i.loaded b told) in
          let steps : StepsAs c.args.folder.0 c.args.role c.loop-gate.log.log.shape c.step.new.log.log c.loop-gate.gate b (Ok (Some c.in-Ok-Some.next)) =
          subst (λ o. StepsAs c.args.folder.0 c.args.role c.loop-gate.log.log.shape c.step.new.log.log c.loop-gate.gate b (Ok o)) c.in-Ok-Some.field-0-is (c.in-Ok-Some.ensures.steps b (i.quiet.same ∙ told) is) in
          subst (λ s. IsLoaded c.args.folder.0 c.args.role s c.step.new.log.log c.in-Ok-Some.next b) i.shape steps;
      role = c.step.ensures.role ∙ i.role;
      shape = c.step.ensures.shape ∙ i.shape;
      within = next;
      quiet = quiet_then g.D.Disk.told g.D.Disk.may_leave g.D.Disk.moment g.D.Disk.left_since c.args.disk.now c.loop-gate.disk c.step.new.disk i.quiet c.step.ensures.quiet;
      faults = faults;
    }

pub returns-clause-loads : goal.returns-clause-loads
returns-clause-loads g c = λ b told.
    let i = c.loop-gate.invariant in
    let length_is = c.requires.length b told in
    past_end c.args.folder.0 c.args.role c.args.log.now.log.shape c.loop-gate.log.log c.loop-gate.gate b (i.loaded b told) (omega (arith, length_is, c.loop-gate-test.false))
