use Rattle.dory_fields.proofs.Many.{ReadsMany}
use Rattle.dory_wire.specs.Reading.{sum_at}
use Rattle.dory_wire.proofs.answered.read_sums.Given as goal

abbrev pub invariant-loop : goal.invariant-loop
invariant-loop l = ReadsMany (sum_at l.lines) l.sums.items l.count l.counter l.fn.reader l.reader
