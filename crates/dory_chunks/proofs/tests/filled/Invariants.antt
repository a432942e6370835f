use Rattle.std.proofs.Common.{◌≡◌}
use Rattle.dory_chunks.proofs.tests.filled.Given as goal

abbrev pub invariant-loop-doc : goal.invariant-loop-doc
invariant-loop-doc l = record { number : l.version.number ≡ l.doc; shape : l.version.shape ≡ l.shape }
