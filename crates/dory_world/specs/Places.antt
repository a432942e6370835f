-- A member as the code has it, and the station at which it is.
use Rattle.std.specs.Prelude.{◌≡◌, true, Option, Some, None, option_map}
use Rattle.dory_base.specs.declared.ids.Side.{Side}
use Rattle.dory_state.specs.Spelling.{IsKeptState}
use Rattle.dory_state.specs.declared.kept.KeptState.{KeptState}
use Rattle.dory_member.specs.Course.{asks}
use Rattle.dory_member.specs.Machine.{Machine, turn_of, waits_for_reply}
use Rattle.dory_run.specs.World.{Station, Idle, Busy}
use Rattle.dory_world.specs.declared.place.Standing.{Standing}
use Rattle.dory_world.specs.declared.place.Standing.TheVariants as standing

-- the station: of a busy member, its run
abbrev pub station_of : Standing → Station
station_of (standing.Idle kept) = Idle kept
station_of (standing.Busy member) = Busy member.run

-- an idle member's state is in range, and a busy member waits for a reply
abbrev pub Stands : Standing → Type 0
Stands (standing.Idle kept) = IsKeptState kept
Stands (standing.Busy member) = waits_for_reply (turn_of member) ≡ true

-- what an idle member has kept
abbrev pub idle_in : Station → Option KeptState
idle_in (Idle k) = Some k
idle_in (Busy run) = None

-- the domain of which a busy member waits for a reply
abbrev pub awaited_at : Station → Option Side
awaited_at (Idle k) = None
awaited_at (Busy run) = option_map (λ ask. ask.side) (asks run.phase)

-- A command is taken from its member, which is left idle with what it has kept. An idle member has none.
abbrev pub GivesUp : Station → Station → Option Machine → Type 0
GivesUp (Idle k) now None = now ≡ Idle k
GivesUp (Idle k) now (Some member) = ⊥
GivesUp (Busy run) now None = ⊥
GivesUp (Busy run) now (Some member) = (now ≡ Idle run.kept) × (member.run ≡ run) × (waits_for_reply (turn_of member) ≡ true)

-- so of the member of a number, if there is one
abbrev pub awaited_in : Option Station → Option Side
awaited_in None = None
awaited_in (Some s) = awaited_at s
