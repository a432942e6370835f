-- The commands as clap is told of them. The definition of a command line does not name them.
use Rattle.std.specs.Prelude.{List, ℕ, Bool, true, false, Some, codes}
use Rattle.clap.specs.Words.{App, Rule, new_app, new_rule, with_rule}

-- an option with one value
abbrev pub plain_option : List ℕ → Bool → Rule
plain_option name required = record (new_rule name) { long = Some name; required = required }

-- a command whose words are all its own, and that has no flag of clap's
abbrev pub bare_app : List ℕ → App
bare_app name = record (new_app name) { top = record (new_app name).top { no_binary_name = true; disable_help_flag = true } }

-- `init` and its options
abbrev pub init_app : App
init_app = with_rule (with_rule (with_rule (with_rule (with_rule (with_rule (bare_app (codes "init"))
    (plain_option (codes "folder") true))
    (plain_option (codes "member") true))
    (plain_option (codes "depth") true))
    (plain_option (codes "probes") true))
    (plain_option (codes "master") true))
    (plain_option (codes "serial") false)

-- a command with one word
abbrev pub word_app : List ℕ → List ℕ → App
word_app command name = with_rule (bare_app command) (record (new_rule name) { required = true })
