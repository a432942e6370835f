use Rattle.dory_shared.specs.Seen.{names_of}
use Rattle.dory_shared_bench.proofs.full.measure.Given as goal

-- the folder that was just opened
abbrev pub ghosts-all_of : goal.ghosts-all_of
ghosts-all_of g a = record { names = names_of a.opened }
