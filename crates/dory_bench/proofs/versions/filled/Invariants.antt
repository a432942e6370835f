use Rattle.std.proofs.Common.{◌≡◌}
use Rattle.dory_bench.proofs.versions.filled.Given as goal

abbrev pub invariant-loop-doc : goal.invariant-loop-doc
invariant-loop-doc l = record { number_is : l.version.number ≡ l.doc; shape_is : l.version.shape ≡ l.shape }
