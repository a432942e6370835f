use Rattle.dory_shared.specs.Seen.{names_of}
use Rattle.dory_at_once.proofs.tests.many.many_documents_are_searched_while_some_are_replaced.Given as goal

-- the folder that was just opened
abbrev pub ghosts-at_once : goal.ghosts-at_once
ghosts-at_once g a = record { names = names_of a.opened }
