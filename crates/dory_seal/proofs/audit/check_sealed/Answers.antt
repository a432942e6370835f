use Rattle.std.proofs.Common.{◌%◌, ℕ, length, ap, ◌∙◌}
use Rattle.dory_base.specs.History.{IsPostOf}
use Rattle.dory_seal.proofs.Blocks.{whole_blocks}
use Rattle.dory_seal.proofs.audit.check_sealed.Goals as goal

pub first_bad-requires-clause-blocks : goal.first_bad-requires-clause-blocks
first_bad-requires-clause-blocks c =
    let whole : IsPostOf c.in-Post.shape c.in-Post.shape (length c.in-Post.row) (length c.in-Post.tags) = rw c.in-Post.is at c.requires in
    ap (λ (n : ℕ). n % 256) whole.row ∙ whole_blocks c.in-Post.shape c.columns-columns.ensures.range
