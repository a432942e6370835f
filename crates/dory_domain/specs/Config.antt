-- Why a list of folders can't be served.
use Rattle.std.specs.Prelude.{ℕ, ◌≡◌, ◌==◌, ◌&&◌, nat_le, Bool, not, if◌then◌else◌, List, length, map, take, slice_index, Option, Some, None, Result, Ok, Err, position}
use Rattle.std.specs.List.{list_any, range_with_len}
use Rattle.dory_domain.specs.declared.config.FolderConfig.{FolderConfig}
use Rattle.dory_domain.specs.declared.config.ConfigFault.{ConfigFault}
use Rattle.dory_domain.specs.declared.config.ConfigFault.TheVariants.{Folders, FolderTwice, Retained}
use Rattle.dory_domain.specs.declared.config.OpenFault.{OpenFault}
use Rattle.dory_domain.specs.declared.config.OpenFault.TheVariants.{BadConfig, NoMemory}

-- the numbers of the folders
abbrev pub numbers_of : List FolderConfig → List ℕ
numbers_of configs = map (λ c. c.folder.0) configs

-- the folder at this place stands earlier in the list too
abbrev pub stands_earlier : List FolderConfig → ℕ → Bool
stands_earlier configs place = list_any (λ c. c.folder.0 == slice_index (numbers_of configs) place) (take place configs)

-- the least place whose folder stands earlier in the list too
abbrev pub first_twice : List FolderConfig → Option ℕ
first_twice configs = position (stands_earlier configs) (range_with_len 0 (length configs))

-- a domain may retain 1 to 256 versions
abbrev pub is_retained : ℕ → Bool
is_retained n = nat_le 1 n && nat_le n 256

-- the first place whose number of versions is out of range
abbrev pub first_unretained : List FolderConfig → Option ℕ
first_unretained configs = position (λ c. not (is_retained c.retained)) configs

-- the fault of a number of versions that is out of range, if there is one
abbrev pub retained_fault : List FolderConfig → Option ℕ → Option ConfigFault
retained_fault configs None = None
retained_fault configs (Some place) = Some (Retained place (slice_index (map (λ c. c.retained) configs) place))

-- the fault of a folder that comes twice, else that of a number of versions
abbrev pub listed_fault : List FolderConfig → Option ℕ → Option ConfigFault
listed_fault configs (Some place) = Some (FolderTwice place)
listed_fault configs None = retained_fault configs (first_unretained configs)

-- The first fault: there aren't 1 to 8 folders, or one comes twice, or a number of versions is out of range.
abbrev pub config_fault_of : List FolderConfig → Option ConfigFault
config_fault_of configs =
    if nat_le 1 (length configs) && nat_le (length configs) 8
    then listed_fault configs (first_twice configs)
    else Some (Folders (length configs))

-- A list with a fault is refused by that fault. Another is refused for want of memory alone.
abbrev pub IsRefusedBy : {Core : Type 0} → Option ConfigFault → Result Core OpenFault → Type 0
IsRefusedBy (Some f) result = result ≡ Err (BadConfig f)
IsRefusedBy None (Ok core) = Unit {0}
IsRefusedBy None (Err (BadConfig f)) = ⊥
IsRefusedBy None (Err NoMemory) = Unit {0}
