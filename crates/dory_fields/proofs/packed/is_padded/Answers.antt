use Rattle.std.proofs.Common.{sym, ◌∙◌, arith}
use Rattle.std.proofs.lemmas.Bool.{eq-eqb}
use Rattle.dory_fields.proofs.Words.{whole_bytes, part_of_byte}
use Rattle.dory_fields.proofs.packed.is_padded.Goals as goal

pub returns-then-count-eq0 : goal.returns-then-count-eq0
returns-then-count-eq0 c = eq-eqb _ 0 c.if-count-eq0.true ∙ sym (whole_bytes c.args.packed.now c.args.count c.requires c.if-count-eq0.true)

pub returns-else-count-eq0 : goal.returns-else-count-eq0
returns-else-count-eq0 c = sym (part_of_byte c.args.packed.now c.args.count (λ i. omega (arith, c.type_inv.packed i)) c.requires c.if-count-eq0.false)
