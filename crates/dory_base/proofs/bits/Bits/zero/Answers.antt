use Rattle.std.proofs.Common.{◌+◌, ◌/◌, ap, ◌∙◌}
use Rattle.dory_base.specs.Packed.{bits_of}
use Rattle.dory_base.proofs.Packing.{zero_bits}
use Rattle.dory_base.proofs.bits.Bits.zero.Goals as goal

pub returns : goal.returns
returns c = ap (bits_of c.args.len) (c.in_ok-words.ensures.items_if_clones_equal (λ y e. e)) ∙ zero_bits c.args.len ((c.args.len + 63) / 64)
