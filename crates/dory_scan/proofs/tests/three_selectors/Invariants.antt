use Rattle.dory_scan.specs.Found.{AreSelectors}
use Rattle.dory_scan.proofs.tests.three_selectors.Given as goal

abbrev pub invariant-loop-cells : goal.invariant-loop-cells
invariant-loop-cells l = AreSelectors 256 l.all.items
