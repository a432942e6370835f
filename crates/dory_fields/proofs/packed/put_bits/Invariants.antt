use Rattle.std.proofs.Common.{◌≡◌, ◌++◌, ◌-◌, ◌*◌, length, take}
use Rattle.dory_fields.specs.Packing.{packed, packed_len}
use Rattle.dory_fields.proofs.packed.put_bits.Given as goal

abbrev pub invariant-loop-word : goal.invariant-loop-word
invariant-loop-word l = record {
  left : l.left ≡ packed_len (length l.bits) - 8 * l.word-index;
  written : l.out.items ≡ l.fn.out.items ++ take (8 * l.word-index) (packed l.bits);
}
