use Rattle.dory_table.proofs.tests.a_freed_slot_is_the_next_documents.Goals as goal

pub next_version-requires-3-clause-change : goal.next_version-requires-3-clause-change
next_version-requires-3-clause-change g c = c.remove.ensures c.in_ok-table-3.table.shape

pub apply-requires-clause-change : goal.apply-requires-clause-change
apply-requires-clause-change g c = c.remove-2.ensures c.in_ok-table-5.table.shape
