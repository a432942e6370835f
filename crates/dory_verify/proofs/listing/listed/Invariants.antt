use Rattle.std.proofs.Common.{◌≡◌, ◌++◌, drop}
use Rattle.dory_verify.specs.Listing.{listed_from}
use Rattle.dory_verify.proofs.listing.listed.Given as goal

abbrev pub invariant-loop-line : goal.invariant-loop-line
invariant-loop-line l = (l.recent.keys ≡ l.keys) × (l.docs.items ++ listed_from l.keys l.columns l.bits l.line (drop l.line l.places) ≡ listed_from l.keys l.columns l.bits 0 l.places)
