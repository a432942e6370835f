use Rattle.dory_chunks.proofs.tests.a_version_has_what_the_table_has.Goals as goal

pub next_version-requires-7-clause-change : goal.next_version-requires-7-clause-change
next_version-requires-7-clause-change g c = c.remove-removed.ensures c.in_ok-table-4.table.shape

pub next_version-requires-8-clause-change : goal.next_version-requires-8-clause-change
next_version-requires-8-clause-change g c = c.remove-removed.ensures c.in_ok-later.later.shape

pub next_version-requires-9-clause-change : goal.next_version-requires-9-clause-change
next_version-requires-9-clause-change g c = c.remove-unknown.ensures c.in_ok-table-5.table.shape

pub next_version-requires-10-clause-change : goal.next_version-requires-10-clause-change
next_version-requires-10-clause-change g c = c.remove-unknown.ensures c.in_ok-version-4.version.shape
