use Rattle.std.proofs.Common.{◌≡◌, ◌+◌}
use Rattle.dory_chunks.proofs.tests.slots_go_on_into_the_next_chunk.Given as goal

abbrev pub invariant-loop-doc : goal.invariant-loop-doc
invariant-loop-doc g l = record {
  table_number : l.table.number + 1 ≡ l.doc;
  version_number : l.version.number + 1 ≡ l.doc;
  table_shape : l.table.shape ≡ l.shape;
  version_shape : l.version.shape ≡ l.shape;
}
