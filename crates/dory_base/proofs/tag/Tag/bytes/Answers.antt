use Rattle.std.proofs.Common.{◌<◌, ◌^◌, ℕ, ap, sym, ◌∙◌, subst}
use Rattle.dory_base.specs.TagBytes.{tag_bytes, tag_bytes-tag_number, tag_number_small}
use Rattle.dory_base.proofs.tag.Tag.bytes.Goals as goal

pub returns-clause-bytes : goal.returns-clause-bytes
returns-clause-bytes c = sym (tag_bytes-tag_number c.self.inside.0 c.self.invariant) ∙ ap tag_bytes c.self.view_is

pub returns-clause-few : goal.returns-clause-few
returns-clause-few c = subst (λ (n : ℕ). n < 2 ^ 128) c.self.view_is (tag_number_small c.self.inside.0 c.self.invariant)
