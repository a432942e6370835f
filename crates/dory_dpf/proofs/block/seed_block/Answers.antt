use Rattle.std.proofs.Common.{◌≡◌, ◌<◌, refl, ap, ap₂, slice_index, ◌∙◌, arith, add-one}
use Rattle.rand_chacha.specs.Block.{add32, column_round, diagonal_round, double_rounds}
use Rattle.dory_dpf.specs.Block.{block_word}
use Rattle.dory_dpf.proofs.block.seed_block.Goals as goal

pub rounds-init : goal.rounds-init
unfolding double_rounds
rounds-init c = refl

pub rounds-preserved : goal.rounds-preserved
unfolding double_rounds
rounds-preserved c =
    rw add-one (c.diagonal_round-x.ensures ∙ ap diagonal_round (c.column_round.ensures ∙ ap column_round c.rounds.invariant))

pub returns : goal.returns
unfolding block_word
returns c k h =
    let written : k < c.words.k = omega arith in
    let done : c.rounds._round ≡ 10 = omega arith in
    let first = c.state_of-first.ensures in
    c.words.invariant.written k written
    ∙ ap₂ add32 (ap (λ x. slice_index x k) (c.rounds.invariant ∙ ap₂ double_rounds done first)) (ap (λ x. slice_index x k) first)
