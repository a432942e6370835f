-- What a command keeps first.
use Rattle.std.specs.Prelude.{ℕ, List, Option}
use Rattle.dory_state.specs.declared.kept.KeptState.{KeptState}
use Rattle.dory_member.specs.Machine.{saves_first}
use Rattle.dory_member.specs.declared.phase.Run.{Run}
use Rattle.dory_drive.specs.Kept.{KeepsIf}

-- A run's state is kept. One that asks nothing and comes to nothing new keeps nothing.
abbrev pub KeepsOf : Run → Option (Option (List ℕ)) → Option (Option (List ℕ)) → KeptState → Type 0
KeepsOf run before now state = KeepsIf (saves_first run.phase) before now state
