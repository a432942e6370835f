use Rattle.dory_shared.specs.Seen.{names_of}
use Rattle.dory_shared.proofs.tests.a_seat_reads_what_it_was_told_and_keeps_what_it_held.Given as goal

-- the folders that were just opened
abbrev pub ghosts-two_seats : goal.ghosts-two_seats
ghosts-two_seats g a = record { names = names_of a.opened }
