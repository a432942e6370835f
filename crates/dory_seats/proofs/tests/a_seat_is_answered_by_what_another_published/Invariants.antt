use Rattle.dory_shared.specs.Seen.{names_of}
use Rattle.dory_seats.proofs.tests.a_seat_is_answered_by_what_another_published.Given as goal

-- the folder that was just opened
abbrev pub ghosts-in_turn : goal.ghosts-in_turn
ghosts-in_turn g a = record { names = names_of a.opened }
