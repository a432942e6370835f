use Rattle.std.proofs.Common.{◌≡◌, drop}
use Rattle.dory_verify.specs.Checks.{all_add_up}
use Rattle.dory_verify.proofs.search.all_add_up.Given as goal

abbrev pub invariant-loop-probe : goal.invariant-loop-probe
invariant-loop-probe l = all_add_up l.keys l.manifest l.probe (drop l.probe l.columns) (drop l.probe l.lead) (drop l.probe l.follow) ≡ all_add_up l.keys l.manifest 0 l.columns l.lead l.follow
