use Rattle.std.proofs.Common.{◌≡◌, ℕ, get_or, ap, sym, ◌∙◌, arith}
use Rattle.std.specs.Int.{bit_at}
use Rattle.std.proofs.lemmas.Bool.{false≢true}
use Rattle.std.proofs.lemmas.List.{get_or_default}
use Rattle.dory_base.proofs.SameBits.{word_same}
use Rattle.dory_base.proofs.bits.same_words.Goals as goal

pub returns-then-not-same_word : goal.returns-then-not-same_word
returns-then-not-same_word c =
    let ws = c.args.a.now.items in
    let vs = c.args.b.now.items in
    let i = c.loop-i.i in
    let x = c.index.result.now in
    let y = c.index-in-loop-i.result.now in
    let at_a : x ≡ get_or ws i 0 = c.index.ensures ∙ get_or_default ws i x 0 (omega arith) in
    let at_b : y ≡ get_or vs i 0 = c.index-in-loop-i.ensures ∙ get_or_default vs i y 0 (omega arith) in (
      (λ e. absurd (false≢true e)),
      λ same. sym c.if-not-same_word.true ∙ c.same_word.ensures.1 (λ k h. ap (λ (w : ℕ). bit_at w k) at_a ∙ word_same ws vs same i k h ∙ ap (λ (w : ℕ). bit_at w k) (sym at_b)),
    )
