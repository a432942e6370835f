use Rattle.dory_shared.specs.Seen.{names_of}
use Rattle.dory_at_once.proofs.tests.searched.a_seat_answers_as_a_domain_in_memory.Given as goal

-- the folder that was just opened
abbrev pub ghosts-plays : goal.ghosts-plays
ghosts-plays g a = record { names = names_of a.opened }
