use Rattle.std.proofs.Common.{◌≡◌, drop}
use Rattle.dory_shelf.proofs.writer.appended.Given as goal

abbrev pub invariant-loop : goal.invariant-loop
invariant-loop g l = (l.left ≡ l.fn.change) × (l.writer.desk ≡ l.fn.writer.desk) × (drop l.writer.behind l.writer.log.items ≡ drop l.fn.writer.behind l.fn.writer.log.items)
