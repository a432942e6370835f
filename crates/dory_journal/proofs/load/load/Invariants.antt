use Rattle.std.proofs.Common.{◌≡◌, ◌-◌, ◌≤◌, Some, List, ℕ}
use Rattle.dory_journal.proofs.load.load.Given as goal
use Rattle.dory_journal.specs.Reading.{IsLoaded}
use Rattle.dory_journal.specs.Runs.{Quiet}

abbrev pub decreases-loop-gate : goal.decreases-loop-gate
decreases-loop-gate g l = l.length - l.gate

-- the operations up to the gate are in the log
abbrev pub invariant-loop-gate : goal.invariant-loop-gate
invariant-loop-gate g l = record {
  loaded : (b : List ℕ) → g.D.Disk.told l.fn.disk ≡ Some b → IsLoaded l.folder.0 l.role l.fn.log.log.shape l.log.log l.gate b;
  role : l.log.log.role ≡ l.role;
  shape : l.log.log.shape ≡ l.fn.log.log.shape;
  within : l.gate ≤ l.length;
  quiet : Quiet g.D.Disk.told g.D.Disk.may_leave g.D.Disk.moment g.D.Disk.left_since l.fn.disk l.disk;
  faults : g.D.Disk.faults l.fn.disk ≤ g.D.Disk.faults l.disk;
}
