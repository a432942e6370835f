use Rattle.dory_shared.specs.Seen.{names_of}
use Rattle.dory_at_once.proofs.tests.growing.histories_grow_while_others_write.Given as goal

-- the folder that was just opened
abbrev pub ghosts-at_once : goal.ghosts-at_once
ghosts-at_once g a = record { names = names_of a.opened }
