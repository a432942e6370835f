use Rattle.std.proofs.Common.{◌≡◌, length, take}
use Rattle.dory_fields.proofs.Many.{ReadsMany}
use Rattle.dory_dpf.specs.KeyBytes.{correction_at}
use Rattle.dory_dpf.proofs.reading.read_corrections.Given as goal

abbrev pub invariant-loop-level : goal.invariant-loop-level
invariant-loop-level l = record {
  whole : length l.corrections ≡ 11;
  read : ReadsMany correction_at (take l.level l.corrections) l.levels l.level l.fn.reader l.reader;
}
