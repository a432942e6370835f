use Rattle.std.proofs.Common.{◌≡◌, ℕ, false, ◌+◌, ◌*◌, get_or, ap, ◌∙◌, arith}
use Rattle.dory_seal.specs.Seal.{cell_tag_of}
use Rattle.dory_seal.proofs.Sealing.{tags_over}
use Rattle.dory_seal.proofs.Written.{runs_more}
use Rattle.dory_seal.proofs.post.sealed_tags.Goals as goal

pub loop-run-preserved : goal.loop-run-preserved
loop-run-preserved c =
    let tag_at : ℕ → ℕ = λ j. cell_tag_of c.args.keys.now.keys c.args.doc c.args.id j (get_or c.args.cells.now j false) in
    let more : 64 * c.loop-run.run + 64 ≡ 64 * (c.loop-run.run + 1) = omega arith in
    c.in_ok-extend_from_slice.ensures.items
    ∙ runs_more tag_at c.loop-run.tags.items c.tags_from.result (64 * c.loop-run.run) 64 c.loop-run.invariant c.tags_from.ensures
    ∙ ap (λ (n : ℕ). tags_over c.args.keys.now.keys c.args.doc c.args.id n c.args.cells.now) more
