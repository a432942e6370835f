-- What a server has served when it ends.
use Rattle.std.specs.Prelude.{ℕ, ◌≡◌, ⊤, All, List, length, Option, Result, Ok}
use Rattle.std.specs.List.{AllZip}
use Rattle.dory_net.specs.Serving.{Telling}
use Rattle.dory_net.specs.declared.serving.ServeEnd.{ServeEnd}
use Rattle.dory_net.specs.declared.serving.ServeEnd.TheVariants as port
use Rattle.dory_shared.specs.Seen.{Seen}
use Rattle.dory_shared.specs.Opening.{AreOpened}
use Rattle.dory_seats.specs.Answered.{IsAnswered}
use Rattle.dory_lanes.specs.Lanes.{Showing, IsLaneServed, end_of}
use Rattle.dory_lanes.specs.declared.lane.Lane.{Lane}
use Rattle.dory_server.specs.declared.end.ServerEnd.{ServerEnd}
use Rattle.dory_server.specs.declared.end.ServerEnd.TheVariants.{Usage, BadConfig, PlaceRefused, NoThreads, BindFault, OutputFault, Sessions, AcceptFault, NoMemory}
use Rattle.dory_server.specs.declared.line.ServerLine.{ServerLine}
use Rattle.dory_server.specs.declared.line.ServerWords.{ServerWords}

-- what a port counts, and what its connections tell
pub record Counting (Door From To : Type 0) : Type 0 where
  pub tell : Telling From To
  pub given : Door → ℕ
  pub faults : Door → ℕ

-- of a lane with a seat: what the seat has seen, what its port counts, and what its connections tell
abbrev pub showing : {Door From To : Type 0} → Counting Door From To → Showing (List Seen) Door (List Seen) From To
showing counting =
    record { seen = λ s. s; left = counting.tell.left; given = counting.tell.given; written = counting.tell.written; handed = counting.given; faults = counting.faults }

-- So many lanes, whose seats had seen this of one domain at first. At each lane the connections that its port gave were served
-- one after another through its seat, as many as were asked for, or fewer where the port failed; and the end is a fault exactly
-- where one of the lanes ended so.
pub record AreServed {Door From To : Type 0} (counting : Counting Door From To) (seen : List Seen) (many : ℕ) (asked : Option ℕ) (end : ServeEnd) (before after : List (Lane (List Seen) Door)) : Type 0 where
  pub number : length before ≡ many
  pub seats : All (λ (l : Lane (List Seen) Door). l.answers ≡ seen) before
  pub served : AllZip (IsLaneServed IsAnswered (showing counting) asked) before after
  pub ended : end ≡ end_of after

-- some lanes were served so
abbrev pub ServedFrom : {Door From To : Type 0} → Counting Door From To → List Seen → ℕ → Option ℕ → ServeEnd → Type 0
ServedFrom {Door} counting seen many asked end = (before : List (Lane (List Seen) Door)) × (after : List (Lane (List Seen) Door)) × AreServed counting seen many asked end before after

-- As many lanes as the line has seats were served, each from what is seen of the domain that the line names, with no update.
abbrev pub ServedBy : {Door From To : Type 0} → Counting Door From To → Result ServerLine ServerWords → Option ℕ → ServeEnd → Type 0
ServedBy counting read asked end =
    (line : ServerLine) × (seen : List Seen) × (read ≡ Ok line) × AreOpened line.config.role line.config.folders seen
    × ServedFrom counting seen line.config.seats asked end

-- what was served by the end of a server that has bound its address
abbrev pub ServedThen : {Door From To : Type 0} → Counting Door From To → List Seen → ℕ → Option ℕ → ServerEnd → Type 0
ServedThen counting seen many asked (Usage at) = ⊤
ServedThen counting seen many asked (BadConfig fault) = ⊤
ServedThen counting seen many asked PlaceRefused = ⊤
ServedThen counting seen many asked NoThreads = ⊤
ServedThen counting seen many asked BindFault = ⊤
ServedThen counting seen many asked OutputFault = ⊤
ServedThen counting seen many asked Sessions = ServedFrom counting seen many asked port.Sessions
ServedThen counting seen many asked AcceptFault = ServedFrom counting seen many asked port.AcceptFault
ServedThen counting seen many asked NoMemory = ⊤

-- what was served by the end
abbrev pub Served : {Door From To : Type 0} → Counting Door From To → Result ServerLine ServerWords → Option ℕ → ServerEnd → Type 0
Served counting read asked (Usage at) = ⊤
Served counting read asked (BadConfig fault) = ⊤
Served counting read asked PlaceRefused = ⊤
Served counting read asked NoThreads = ⊤
Served counting read asked BindFault = ⊤
Served counting read asked OutputFault = ⊤
Served counting read asked Sessions = ServedBy counting read asked port.Sessions
Served counting read asked AcceptFault = ServedBy counting read asked port.AcceptFault
Served counting read asked NoMemory = ⊤
