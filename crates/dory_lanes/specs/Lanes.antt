-- What lanes have served.
use Rattle.std.specs.Prelude.{ℕ, ◌≡◌, Bool, true, false, List, Option, if◌then◌else◌}
use Rattle.std.specs.List.{list_any}
use Rattle.dory_io.specs.Causes.{HasCause}
use Rattle.dory_domain.specs.Answered.{Steps}
use Rattle.dory_net.specs.Serving.{Connection, Telling, IsServing}
use Rattle.dory_net.specs.declared.serving.ServeEnd.{ServeEnd}
use Rattle.dory_net.specs.declared.serving.ServeEnd.TheVariants.{Sessions, AcceptFault}
use Rattle.dory_lanes.specs.declared.lane.Lane.{Lane}

-- what is seen of a lane's domain, what its connections tell, and how many its port has handed out and has failed to
pub record Showing (D Door V From To : Type 0) : Type 0 where
  pub seen : D → V
  pub left : From → Option (List ℕ)
  pub given : From → ℕ
  pub written : To → Option (List ℕ)
  pub handed : Door → ℕ
  pub faults : Door → ℕ

-- what its connections tell
abbrev pub telling : {D Door V From To : Type 0} → Showing D Door V From To → Telling From To
telling shows = record { left = shows.left; given = shows.given; written = shows.written }

-- The lane's port gave connections, and they were served one after another, each from what was seen of the lane's domain after
-- the one before it: as many as were asked for. Fewer were only where the port's count of faults rose.
pub record IsLaneServed {D Door V From To : Type 0} (steps : Steps V) (shows : Showing D Door V From To) (asked : Option ℕ) (before after : Lane D Door) : Type 0 where
  pub served : (connections : List (Connection From To)) × IsServing steps (telling shows) (shows.seen before.answers) (shows.seen after.answers) (shows.handed before.port) (shows.handed after.port) asked after.end connections
  pub cause : HasCause (shows.faults before.port) (shows.faults after.port) (after.end ≡ AcceptFault)

-- such an end is a fault
abbrev pub is_fault : ServeEnd → Bool
is_fault Sessions = false
is_fault AcceptFault = true

-- the lane's port gave no further connection
abbrev pub is_faulty : {D Door : Type 0} → Lane D Door → Bool
is_faulty lane = is_fault lane.end

-- how lanes ended together: by a fault exactly where one of them did
abbrev pub end_of : {D Door : Type 0} → List (Lane D Door) → ServeEnd
end_of lanes = if list_any is_faulty lanes then AcceptFault else Sessions
