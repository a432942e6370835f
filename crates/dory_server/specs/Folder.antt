-- A folder as it is named on a command line.
use Rattle.std.specs.Prelude.{ℕ, List, is_some, slice_get, Option, Some, None, if◌then◌else◌}
use Rattle.dory_io.specs.Numbers.{number_of}
use Rattle.dory_io.specs.Address.{between_colons, number_at, ◌>>=◌}
use Rattle.dory_domain.specs.declared.config.FolderConfig.{FolderConfig}

-- how many versions are retained: 64 where it is not given
abbrev pub retained_of : Option (List ℕ) → Option ℕ
retained_of None = Some 64
retained_of (Some text) = number_of 0 4294967295 text

-- the folder's number, its depth and its probes, how many versions are retained, and nothing after them
abbrev pub folder_of_parts : List (List ℕ) → Option FolderConfig
folder_of_parts texts = if is_some (slice_get texts 4) then None else (do
  folder ← number_at 0 0 4294967295 texts
  depth ← number_at 1 8 11 texts
  probes ← number_at 2 1 8 texts
  retained ← retained_of (slice_get texts 3)
  Some (record { folder = record { 0 = folder }; shape = record { depth = depth; probes = probes }; retained = retained }))

-- the folder that a word names, as `1:8:2` or `1:8:2:64`
abbrev pub folder_of : List ℕ → Option FolderConfig
folder_of word = folder_of_parts (between_colons word)
