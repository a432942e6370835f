use Rattle.dory_shared.specs.Seen.{names_of}
use Rattle.dory_shared_bench.proofs.long.measure.Given as goal

-- the folder that was just opened
abbrev pub ghosts-parts : goal.ghosts-parts
ghosts-parts g a = record { names = names_of a.opened }
