use Rattle.std.proofs.Common.{◌≡◌, drop}
use Rattle.dory_verify.specs.Checks.{same_manifest}
use Rattle.dory_verify.proofs.pair.same_lines.Given as goal

abbrev pub invariant-loop-place : goal.invariant-loop-place
invariant-loop-place l = same_manifest l.place (drop l.place l.lead) (drop l.place l.follow) ≡ same_manifest 0 l.lead l.follow
