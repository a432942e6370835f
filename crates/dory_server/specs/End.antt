-- The status and the text of a server's end.
use Rattle.std.specs.Prelude.{ℕ, List, ◌++◌, codes}
use Rattle.std.specs.Fmt.{decimal}
use Rattle.dory_domain.specs.Setup.{config_fault_text}
use Rattle.dory_server.specs.declared.end.ServerEnd.{ServerEnd}
use Rattle.dory_server.specs.declared.end.ServerEnd.TheVariants.{Usage, BadConfig, PlaceRefused, NoThreads, BindFault, OutputFault, Sessions, AcceptFault, NoMemory}

-- the exit status
abbrev pub server_status_of : ServerEnd → ℕ
server_status_of (Usage at) = 2
server_status_of (BadConfig fault) = 3
server_status_of PlaceRefused = 5
server_status_of NoThreads = 12
server_status_of BindFault = 4
server_status_of OutputFault = 9
server_status_of Sessions = 0
server_status_of AcceptFault = 4
server_status_of NoMemory = 12

-- an end: its name in lower case, and what it carries, after a space
abbrev pub server_end_text : ServerEnd → List ℕ
server_end_text (Usage at) = codes "usage " ++ decimal at
server_end_text (BadConfig fault) = codes "badconfig " ++ config_fault_text fault
server_end_text PlaceRefused = codes "placerefused"
server_end_text NoThreads = codes "nothreads"
server_end_text BindFault = codes "bindfault"
server_end_text OutputFault = codes "outputfault"
server_end_text Sessions = codes "sessions"
server_end_text AcceptFault = codes "acceptfault"
server_end_text NoMemory = codes "nomemory"
