use Rattle.std.proofs.Common.{◌≡◌, ◌++◌, drop}
use Rattle.dory_verify.specs.Listing.{crossed}
use Rattle.dory_verify.proofs.listing.crossed.Given as goal

abbrev pub invariant-loop-probe : goal.invariant-loop-probe
invariant-loop-probe l = l.all.items ++ crossed (drop l.probe l.lead) (drop l.probe l.follow) ≡ crossed l.lead l.follow
