use Rattle.std.proofs.Common.{◌∙◌, ℕ, List, set, arith}
use mathlib.Core.Path.{ap₂}
use Rattle.dory_bloom.proofs.Columns.{columns_more}
use Rattle.dory_bloom.proofs.probes.keyed_positions.Goals as goal

pub loop-p-preserved : goal.loop-p-preserved
loop-p-preserved c =
    let few = c.probes-p-end.ensures.range.few in
    ap₂ (λ (columns : List ℕ) (column : ℕ). set columns c.loop-p.p column) c.loop-p.invariant c.column_at.ensures
    ∙ columns_more c.tag-tag.result c.args.shape.depth c.loop-p.p (omega arith)
