use Rattle.std.proofs.Common.{ℕ, ap, ◌∙◌, sym, length, Bool, List, false, cond, get_or, ◌+◌, ◌/◌}
use Rattle.dory_base.specs.Packed.{word_bit}
use Rattle.dory_base.proofs.Packing.{length-bits_of, word_bit_is}
use Rattle.dory_base.proofs.bits.Bits.words.Goals as goal

pub returns-clause-len : goal.returns-clause-len
returns-clause-len c =
    ap (length {A = ℕ}) c.as_slice.ensures.value ∙ c.self.invariant.exact
    ∙ ap (λ (n : ℕ). (n + 63) / 64) (sym (length-bits_of c.self.inside.len c.self.inside.words.items) ∙ ap (length {A = Bool}) c.self.view_is)

pub returns-clause-bits : goal.returns-clause-bits
returns-clause-bits c = λ j.
    ap (λ (ws : List ℕ). word_bit ws j) c.as_slice.ensures.value ∙ word_bit_is c.self.inside.len c.self.inside.words.items c.self.invariant j
    ∙ ap (λ (bs : List Bool). cond (get_or bs j false) 1 0) c.self.view_is
