use Rattle.std.proofs.Common.{ℕ, ◌+◌, ◌/◌, ap, ◌∙◌, sym}
use Rattle.std.proofs.lemmas.Bool.{eqb-true, eq-eqb}
use Rattle.dory_base.proofs.SameBits.{same_bits, same_length, same_shown}
use Rattle.dory_base.proofs.bits.Bits.same.Goals as goal

pub same_words-requires : goal.same_words-requires
same_words-requires c = c.self.invariant.exact ∙ ap (λ (x : ℕ). (x + 63) / 64) c.if-self-other.true ∙ sym c.other.invariant.exact

pub returns-then-self-other : goal.returns-then-self-other
returns-then-self-other c =
    let n = c.self.inside.len in
    let m = c.other.inside.len in
    let ws = c.self.inside.words.items in
    let vs = c.other.inside.words.items in (
      (λ t. sym c.self.view_is ∙ same_bits n m ws vs c.if-self-other.true (c.same_words.ensures.0 t) ∙ c.other.view_is),
      λ e. c.same_words.ensures.1 (same_shown n m ws vs c.self.invariant c.other.invariant (c.self.view_is ∙ e ∙ sym c.other.view_is)),
    )

pub returns-else-self-other : goal.returns-else-self-other
returns-else-self-other c = (
  (λ e. absurd (c.if-self-other.false (eqb-true c.self.inside.len c.other.inside.len e))),
  λ e. eq-eqb c.self.inside.len c.other.inside.len (same_length c.self.inside.len c.other.inside.len c.self.inside.words.items c.other.inside.words.items (c.self.view_is ∙ e ∙ sym c.other.view_is)),
)
