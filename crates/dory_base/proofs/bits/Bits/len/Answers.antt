use Rattle.std.proofs.Common.{ap, ◌∙◌, sym, length, Bool}
use Rattle.dory_base.proofs.Packing.{length-bits_of}
use Rattle.dory_base.proofs.bits.Bits.len.Goals as goal

pub returns-clause-value : goal.returns-clause-value
returns-clause-value c = sym (length-bits_of c.self.inside.len c.self.inside.words.items) ∙ ap (length {A = Bool}) c.self.view_is
