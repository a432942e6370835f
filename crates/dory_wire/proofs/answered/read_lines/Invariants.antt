use Rattle.dory_wire.proofs.Loops.{ReadsLines}
use Rattle.dory_wire.proofs.answered.read_lines.Given as goal

abbrev pub invariant-loop : goal.invariant-loop
invariant-loop l = ReadsLines l.places.items l.count l.counter l.least l.fn.reader l.reader
