use Rattle.dory_fields.proofs.Many.{ReadsMany}
use Rattle.dory_dpf.specs.KeyBytes.{key_at}
use Rattle.dory_wire.proofs.probe_keys.read_keys.Given as goal

abbrev pub invariant-loop : goal.invariant-loop
invariant-loop l = ReadsMany (key_at l.form l.depth) l.keys.items l.count l.counter l.fn.reader l.reader
