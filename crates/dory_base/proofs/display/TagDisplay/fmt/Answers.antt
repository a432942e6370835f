use Rattle.std.proofs.Common.{rules, arith}
use Rattle.dory_base.proofs.HexText.{tag_printed}
use Rattle.dory_base.proofs.display.TagDisplay.fmt.Goals as goal

pub returns-clause-writes : goal.returns-clause-writes
returns-clause-writes g c = rw (tag_printed c.args.self.now c.bytes.result (search rules) (search rules)) (search rules)
