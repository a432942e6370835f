use Rattle.std.proofs.Common.{◌∙◌, ℕ, ◌%◌, arith}
use mathlib.Core.Path.{ap₂}
use Rattle.dory_bloom.proofs.Columns.{column_is}
use Rattle.dory_bloom.proofs.probes.column_at.Goals as goal

pub returns : goal.returns
returns c =
    ap₂ (λ (n m : ℕ). n % m) c.from_be_bytes-number.ensures c.columns.ensures.value
    ∙ column_is c.args.tag.now c.args.shape.depth c.args.p (omega arith)
