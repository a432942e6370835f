use Rattle.std.proofs.Common.{◌≡◌, ◌+◌}
use Rattle.dory_chunks.proofs.tests.a_long_list_of_updates_leaves_both_the_same.Given as goal

abbrev pub invariant-loop-serial : goal.invariant-loop-serial
invariant-loop-serial g l = record {
  table_number : l.table.number + 1 ≡ l.serial-counter;
  version_number : l.version.number + 1 ≡ l.serial-counter;
  table_shape : l.table.shape ≡ l.shape;
  version_shape : l.version.shape ≡ l.shape;
}
