use Rattle.std.proofs.Common.{refl}
use Rattle.dory_base.specs.TagBytes.{tag_number}
use Rattle.dory_base.proofs.tag.Tag.zero.Goals as goal

pub returns : goal.returns
unfolding tag_number
returns c = refl
