use Rattle.dory_shared.specs.Seen.{names_of}
use Rattle.dory_together.proofs.tests.shared.each_of_two_hundred_mails_is_found.Given as goal

-- the folders that were just opened
abbrev pub ghosts-archives-J-Names : goal.ghosts-archives-J-Names
ghosts-archives-J-Names g a = record { names = names_of a.lead }

abbrev pub ghosts-archives-K-Names : goal.ghosts-archives-K-Names
ghosts-archives-K-Names g a = record { names = names_of a.follow }
