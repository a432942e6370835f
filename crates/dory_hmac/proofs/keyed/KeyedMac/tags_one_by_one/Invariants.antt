use Rattle.std.proofs.Common.{◌≡◌, length, take, map}
use Rattle.dory_hmac.specs.Hmac.{hmac_of_block}
use Rattle.dory_hmac.proofs.keyed.KeyedMac.tags_one_by_one.Given as goal

abbrev pub invariant-loop-i : goal.invariant-loop-i
invariant-loop-i g l = (length l.tags ≡ length l.messages) × (take l.i l.tags ≡ take l.i (map (hmac_of_block l.fn.self) l.messages))
