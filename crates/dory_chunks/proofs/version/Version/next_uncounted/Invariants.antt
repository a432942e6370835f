use Rattle.dory_chunks.proofs.version.Version.next_uncounted.Given as goal

abbrev pub ghosts-next_blank : goal.ghosts-next_blank
ghosts-next_blank a = record { name = a.blank.name; parts = a.blank.parts }
