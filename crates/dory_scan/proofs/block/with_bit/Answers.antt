use Rattle.std.proofs.Common.{ap, ◌∙◌, cond, sym, Bool}
use Rattle.std.specs.Int.{w64}
use Rattle.std.proofs.lemmas.Nat.Bits.{bit_at_set_same, bit_at_set_other}
use Rattle.dory_scan.proofs.block.with_bit.Goals as goal

pub returns-then-bit-clause-here : goal.returns-then-bit-clause-here
returns-then-bit-clause-here c = bit_at_set_same w64 c.args.word c.args.k c.requires.range ∙ ap (λ (b : Bool). cond b 1 0) (sym c.if-bit.true)

pub returns-then-bit-clause-there : goal.returns-then-bit-clause-there
returns-then-bit-clause-there c = λ i ne. bit_at_set_other w64 c.args.word c.args.k c.requires.range i ne
