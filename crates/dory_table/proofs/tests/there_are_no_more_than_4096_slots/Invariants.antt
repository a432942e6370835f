use Rattle.std.proofs.Common.{◌≡◌, ◌+◌}
use Rattle.dory_table.proofs.tests.there_are_no_more_than_4096_slots.Given as goal

abbrev pub invariant-loop-doc : goal.invariant-loop-doc
invariant-loop-doc g l = record { number_is : l.table.number + 1 ≡ l.doc; shape_is : l.table.shape ≡ l.shape }
