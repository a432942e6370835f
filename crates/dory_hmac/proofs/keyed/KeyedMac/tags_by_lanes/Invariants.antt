use Rattle.std.proofs.Common.{◌≡◌, ◌*◌, length, take, map}
use Rattle.dory_hmac.specs.Hmac.{hmac_of_block}
use Rattle.dory_hmac.proofs.keyed.KeyedMac.tags_by_lanes.Given as goal

abbrev pub invariant-groups : goal.invariant-groups
invariant-groups g l = (length l.tags ≡ length l.messages) × (take (4 * l.group) l.tags ≡ take (4 * l.group) (map (hmac_of_block l.fn.self) l.messages))

abbrev pub invariant-rest : goal.invariant-rest
invariant-rest g l = (length l.tags ≡ length l.messages) × (take l.i l.tags ≡ take l.i (map (hmac_of_block l.fn.self) l.messages))
