use Rattle.dory_shared.specs.Seen.{names_of}
use Rattle.dory_at_once.proofs.tests.retained.the_last_versions_are_kept_and_no_others.Given as goal

-- the folder that was just opened
abbrev pub ghosts-after : goal.ghosts-after
ghosts-after g a = record { names = names_of a.opened }
