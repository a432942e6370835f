use Rattle.std.proofs.Common.{◌≡◌, length, take, map}
use Rattle.dory_base.specs.TagBytes.{tag_number}
use Rattle.dory_seal.proofs.cell.leading_tags.Given as goal

abbrev pub invariant-loop-i : goal.invariant-loop-i
invariant-loop-i l = (length l.into ≡ length l.digests) × (take l.i l.into ≡ take l.i (map (λ digest. tag_number (take 16 digest)) l.digests))
