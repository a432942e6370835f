use Rattle.dory_scan.proofs.tests.a_removed_row_has_no_part_in_a_sum.Goals as goal

pub next_version-requires-clause-change : goal.next_version-requires-clause-change
next_version-requires-clause-change g c = c.remove.ensures c.in_ok-version.version.shape
