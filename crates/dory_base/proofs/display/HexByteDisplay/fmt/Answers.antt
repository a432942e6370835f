use Rattle.std.proofs.Common.{rules, arith, sym}
use Rattle.dory_base.proofs.HexText.{byte_printed}
use Rattle.dory_base.proofs.display.HexByteDisplay.fmt.Goals as goal

pub returns-clause-writes : goal.returns-clause-writes
returns-clause-writes g c = rw (sym (byte_printed c.args.self.now.0 (omega arith))) (search rules)
