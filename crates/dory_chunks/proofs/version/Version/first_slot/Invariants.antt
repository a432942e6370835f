use Rattle.std.proofs.Common.{map}
use Rattle.std.specs.Arc.{arc_value}
use Rattle.dory_chunks.specs.Marks.{is_slot_of}
use Rattle.dory_chunks.proofs.Seeking.{NoneSo}
use Rattle.dory_chunks.proofs.version.Version.first_slot.Given as goal

abbrev pub invariant-loop-n : goal.invariant-loop-n
invariant-loop-n l = NoneSo (is_slot_of l.doc) (map arc_value l.self-inside.chunks.items) l.n
