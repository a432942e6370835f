-- What is true of every member: of its run, and of the frame that it holds.
use Rattle.std.specs.Prelude.{ℕ, List}
use Rattle.dory_member.specs.declared.phase.Run.{Run}
use Rattle.dory_member.specs.Course.{asks, name}
use Rattle.dory_member.specs.Machine.{IsFramed}
use Rattle.dory_member.specs.Within.{RunInRange}

-- the run is one, and the frame is that of what it asks
pub record Stands (run : Run) (frame : List ℕ) : Type 0 where
  pub runs : RunInRange run
  pub framed : IsFramed (name run run.step) run.kept.folder (asks run.phase) frame
