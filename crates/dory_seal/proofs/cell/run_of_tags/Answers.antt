use Rattle.std.proofs.Common.{ℕ, List, take, map, ap, ◌∙◌}
use Rattle.dory_base.specs.TagBytes.{tag_number}
use Rattle.dory_hmac.specs.Hmac.{hmac_of_block}
use Rattle.dory_seal.proofs.Written.{map_twice}
use Rattle.dory_seal.proofs.cell.run_of_tags.Goals as goal

pub returns : goal.returns
returns c =
    let tag_at : List ℕ → ℕ = λ digest. tag_number (take 16 digest) in
    c.leading_tags.ensures
    ∙ ap (map tag_at) c.tags.ensures
    ∙ map_twice tag_at (hmac_of_block c.args.tag_key.now) c.args.messages.now
