use Rattle.dory_shared.specs.Seen.{names_of}
use Rattle.dory_shared.proofs.tests.refused.what_was_answered_stands_whichever_growth_is_refused.Given as goal

-- the folders that were just opened
abbrev pub ghosts-played : goal.ghosts-played
ghosts-played g a = record { names = names_of a.opened }
