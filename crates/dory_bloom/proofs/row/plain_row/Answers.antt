use Rattle.std.proofs.Common.{◌≡◌, ℕ, false, ◌≤◌, ◌^◌, ◌∙◌, replicate, ap, arith}
use Rattle.std.proofs.Math.Pow.{pow_mono}
use Rattle.dory_bloom.proofs.Rows.{row_under, none_kept}
use Rattle.dory_bloom.proofs.row.plain_row.Goals as goal
use Rattle.dory_bloom.proofs.row.plain_row.Goals.{then-words-lt-MANY, else-words-lt-MANY+in_ok-recent}

pub zero-requires : goal.zero-requires
zero-requires c =
    let range = c.columns.ensures.range in
    let few : 2 ^ c.args.shape.depth ≤ 2 ^ 11 = pow_mono range.high in
    omega (arith, c.columns.ensures.value)

pub set_new-requires-clause-kept : goal.set_new-requires-clause-kept
set_new-requires-clause-kept c = none_kept c.in_ok-recent.recent c.in_ok-row.row c.new-word_key.result c.args.shape 4096 c.in_ok-recent.ensures

pub returns : goal.returns
returns c =
    let start : c.in_ok-row.row ≡ replicate (2 ^ c.args.shape.depth) false = c.in_ok-row.ensures ∙ ap (λ (n : ℕ). replicate n false) c.columns.ensures.value in
    elim c.if-words-lt-MANY.branch [
      | then-words-lt-MANY w ↦
          w.row-is
          ∙ row_under c.args.keys.now c.args.shape c.args.words.now c.new-word_key.result c.in_ok-row.row w.set_each.new.row
          c.new-word_key.ensures start w.set_each.ensures.len w.set_each.ensures.bits
      | else-words-lt-MANY+in_ok-recent w ↦
          w.row-is
          ∙ row_under c.args.keys.now c.args.shape c.args.words.now c.new-word_key.result c.in_ok-row.row w.set_new.new.row
          c.new-word_key.ensures start w.set_new.ensures.len w.set_new.ensures.bits
    ]
