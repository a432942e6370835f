-- How a domain opens.
use Rattle.std.specs.Prelude.{ℕ, ◌≡◌, List, map, Option, Some, None, Result, Ok, Err}
use Rattle.dory_base.specs.declared.ids.Side.{Side}
use Rattle.dory_domain.specs.declared.config.FolderConfig.{FolderConfig}
use Rattle.dory_domain.specs.declared.config.ConfigFault.{ConfigFault}
use Rattle.dory_domain.specs.Held.{opened}
use Rattle.dory_shared.specs.Seen.{Seen, held_of}
use Rattle.dory_shared.specs.declared.opened.OpenError.{OpenError}
use Rattle.dory_shared.specs.declared.opened.OpenError.TheVariants.{BadConfig, PlaceRefused, NoMemory}

-- each folder is as it begins
abbrev pub AreOpened : Side → List FolderConfig → List Seen → Type 0
AreOpened role configs seen = map held_of seen ≡ map (opened role) configs

-- A configuration with a fault is refused by that fault. Another is refused for a place or for want of memory alone.
abbrev pub IsRefusedBy : {A : Type 0} → Option ConfigFault → Result A OpenError → Type 0
IsRefusedBy (Some fault) result = result ≡ Err (BadConfig fault)
IsRefusedBy None (Ok a) = Unit {0}
IsRefusedBy None (Err (BadConfig fault)) = ⊥
IsRefusedBy None (Err PlaceRefused) = Unit {0}
IsRefusedBy None (Err NoMemory) = Unit {0}
