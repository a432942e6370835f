use Rattle.std.proofs.Common.{ℕ, ap, arith}
use Rattle.std.specs.Int.{bit_at}
use Rattle.std.proofs.lemmas.Bool.{eqb-true, eq-eqb}
use Rattle.std.proofs.lemmas.Nat.Bits.{same_from_bits_below}
use Rattle.dory_base.proofs.bits.same_word.Goals as goal

pub returns : goal.returns
returns c = (
  (λ e k h. ap (λ (x : ℕ). bit_at x k) (eqb-true c.args.a c.args.b e)),
  λ same. eq-eqb c.args.a c.args.b (same_from_bits_below 64 c.args.a c.args.b (omega arith) (omega arith) same),
)
