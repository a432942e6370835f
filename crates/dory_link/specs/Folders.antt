-- What a link to a domain's core tells of its folders.
use Rattle.std.specs.Prelude.{ℕ, List, Option, option_map}
use Rattle.dory_domain.specs.Held.{Held, folder_in}
use Rattle.dory_link.specs.Told.{Told}

-- a folder as it is told
abbrev pub told_of : Held → Told
told_of f = record { shape = f.state.shape; retained = f.state.retained; history = f.state.history }

-- the folders of a domain, by their numbers
abbrev pub told_folders : List Held → ℕ → Option Told
told_folders folders number = option_map told_of (folder_in folders number)
