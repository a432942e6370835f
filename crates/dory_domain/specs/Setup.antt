-- Why a server can't be set up so, and how that is printed.
use Rattle.std.specs.Prelude.{ℕ, ◌&&◌, nat_le, if◌then◌else◌, List, ◌++◌, codes, Option, Some, None}
use Rattle.std.specs.Fmt.{decimal}
use Rattle.dory_domain.specs.declared.config.FolderConfig.{FolderConfig}
use Rattle.dory_domain.specs.declared.config.ConfigFault.{ConfigFault}
use Rattle.dory_domain.specs.declared.config.ConfigFault.TheVariants.{Folders, FolderTwice, Retained, Seats}
use Rattle.dory_domain.specs.Config.{config_fault_of}

-- a domain has 1 to 32 seats
abbrev pub seats_fault : ℕ → Option ConfigFault
seats_fault n = if nat_le 1 n && nat_le n 32 then None else Some (Seats n)

-- a fault of the folders, else that of the seats
abbrev pub or_of_seats : Option ConfigFault → ℕ → Option ConfigFault
or_of_seats (Some fault) seats = Some fault
or_of_seats None seats = seats_fault seats

-- the first fault of these folders and seats
abbrev pub setup_fault : List FolderConfig → ℕ → Option ConfigFault
setup_fault folders seats = or_of_seats (config_fault_of folders) seats

-- a fault: its name in lower case, and its numbers, each after a space
abbrev pub config_fault_text : ConfigFault → List ℕ
config_fault_text (Folders n) = codes "folders " ++ decimal n
config_fault_text (FolderTwice place) = codes "foldertwice " ++ decimal place
config_fault_text (Retained place got) = codes "retained " ++ decimal place ++ codes " " ++ decimal got
config_fault_text (Seats n) = codes "seats " ++ decimal n
