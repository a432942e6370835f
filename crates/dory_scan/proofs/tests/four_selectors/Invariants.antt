use Rattle.dory_scan.specs.Found.{AreSelectors}
use Rattle.dory_scan.proofs.tests.four_selectors.Given as goal

abbrev pub invariant-loop-cell : goal.invariant-loop-cell
invariant-loop-cell l = AreSelectors 256 l.all.items
