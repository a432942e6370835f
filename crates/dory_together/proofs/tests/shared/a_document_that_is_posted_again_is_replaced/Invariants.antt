use Rattle.dory_shared.specs.Seen.{names_of}
use Rattle.dory_together.proofs.tests.shared.a_document_that_is_posted_again_is_replaced.Given as goal

-- the folders that were just opened
abbrev pub ghosts-replaces-J-Names : goal.ghosts-replaces-J-Names
ghosts-replaces-J-Names g a = record { names = names_of a.lead }

abbrev pub ghosts-replaces-K-Names : goal.ghosts-replaces-K-Names
ghosts-replaces-K-Names g a = record { names = names_of a.follow }
