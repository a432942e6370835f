use Rattle.std.proofs.Common.{◌≡◌, length, take}
use Rattle.dory_fields.proofs.Many.{ReadsMany}
use Rattle.dory_wire.specs.Reading.{tag_at}
use Rattle.dory_wire.proofs.staged.read_tags.Given as goal

abbrev pub invariant-loop-i : goal.invariant-loop-i
invariant-loop-i l = record {
  whole : length l.tags.items ≡ l.count;
  read : ReadsMany tag_at (take l.i l.tags.items) l.count l.i l.fn.reader l.own;
}
