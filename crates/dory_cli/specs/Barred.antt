-- Words that are refused wherever they stand behind a command.
use Rattle.std.specs.Prelude.{List, ℕ, Bool, ◌&&◌, ◌||◌, codes, nat_eq}
use Rattle.std.specs.List.{starts_with, ends_with}
use Rattle.std.specs.Str.{bytes_eq}

-- `-`, and what begins with `--` and ends with `=`
abbrev pub is_barred : List ℕ → Bool
is_barred word = bytes_eq word (codes "-") || (starts_with nat_eq word (codes "--") && ends_with nat_eq word (codes "="))
