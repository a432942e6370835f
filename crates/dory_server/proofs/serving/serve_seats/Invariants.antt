use Rattle.dory_shared.specs.Seen.{names_of}
use Rattle.dory_server.proofs.serving.serve_seats.Given as goal

-- the folders that were just opened
abbrev pub ghosts-serve_at : goal.ghosts-serve_at
ghosts-serve_at g a = record { names = names_of a.opened }
