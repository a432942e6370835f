use Rattle.std.proofs.Common.{◌≡◌, ◌^◌, ◌∙◌, Bool, length, ap}
use Rattle.std.proofs.lemmas.List.FromFn.{length-map-range_with_len}
use Rattle.dory_dpf.specs.PointKey.{PointKey, share_of, shares_of}
use Rattle.dory_domain.proofs.probes.selector.Goals as goal

-- a key has a share for each column
length-shares : (key : PointKey) → length (shares_of key) ≡ 2 ^ key.depth
unfolding shares_of
length-shares key = length-map-range_with_len (share_of key) 0 (2 ^ key.depth)

pub returns-clause-len : goal.returns-clause-len
returns-clause-len c = ap (length {A = Bool}) c.in_ok-bits.ensures ∙ length-shares c.args.key.now
