use Rattle.std.proofs.Common.{ap, ◌∙◌, cond, sym, Bool}
use Rattle.std.specs.Int.{w64}
use Rattle.std.proofs.lemmas.Nat.Bits.{bit_at_set_same, bit_at_set_other, bit_at_clear_same, bit_at_clear_other}
use Rattle.dory_base.proofs.bits.with_bit.Goals as goal

pub returns-then-bit-clause-same : goal.returns-then-bit-clause-same
returns-then-bit-clause-same c = bit_at_set_same w64 c.args.word c.args.k c.requires ∙ ap (λ (b : Bool). cond b 1 0) (sym c.if-bit.true)

pub returns-then-bit-clause-others : goal.returns-then-bit-clause-others
returns-then-bit-clause-others c = λ i h ne. bit_at_set_other w64 c.args.word c.args.k c.requires i ne

pub returns-else-bit-clause-same : goal.returns-else-bit-clause-same
returns-else-bit-clause-same c = bit_at_clear_same w64 c.args.word c.args.k c.requires ∙ ap (λ (b : Bool). cond b 1 0) (sym c.if-bit.false)

pub returns-else-bit-clause-others : goal.returns-else-bit-clause-others
returns-else-bit-clause-others c = λ i h ne. bit_at_clear_other w64 c.args.word c.args.k c.requires i h ne
