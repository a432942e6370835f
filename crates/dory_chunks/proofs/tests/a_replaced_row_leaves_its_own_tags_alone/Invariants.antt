use Rattle.dory_chunks.proofs.tests.a_replaced_row_leaves_its_own_tags_alone.Given as goal

abbrev pub ghosts-counted : goal.ghosts-counted
ghosts-counted g a = record { name = a.blank.name; parts = a.blank.parts }
