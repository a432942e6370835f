use Rattle.std.proofs.Common.{◌≡◌, length, take}
use Rattle.dory_seal.proofs.mask.masks_of.Given as goal

abbrev pub invariant-loop-i : goal.invariant-loop-i
invariant-loop-i l = (length l.into ≡ length l.digests) × (take l.i l.into ≡ take l.i l.digests)
