use Rattle.std.proofs.Common.{◌≡◌, Result, Ok, Err, IfOk, refl, sym, ◌∙◌, arith}
use Rattle.dory_dpf.specs.declared.key_fault.KeyFault.{KeyFault}
use Rattle.dory_dpf.specs.PointKey.{PointKey}
use Rattle.dory_dpf.proofs.Spelled.{spelled, only}
use Rattle.dory_dpf.proofs.key.Key.decode.Goals as goal

if_ok : (r : Result PointKey KeyFault) (P : PointKey → Type 0) → ((k : PointKey) → r ≡ Ok k → P k) → IfOk r P
if_ok (Ok k) P f = f k refl
if_ok (Err e) P f = tt

pub returns-clause-spelled : goal.returns-clause-spelled
returns-clause-spelled c =
    if_ok c.whole_key.result _ (λ key e. spelled c.args.form c.args.depth c.args.bytes.now key c.requires.form.0 c.requires.form.1 c.requires.depth.0 c.requires.depth.1 (λ i. omega (arith, c.type_inv.bytes i)) (sym c.whole_key.ensures ∙ e))

pub returns-clause-only : goal.returns-clause-only
returns-clause-only c key is e f g = c.whole_key.ensures ∙ only c.args.form c.args.depth c.args.bytes.now key is e f g
