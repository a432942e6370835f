use Rattle.std.proofs.Common.{◌∙◌, ap, length}
use Rattle.dory_bloom.proofs.RowFacts.{length-plain_row_of}
use Rattle.dory_bench.proofs.texts.row_of.Goals as goal

pub returns-in-Ok : goal.returns-in-Ok
returns-in-Ok c = ap length c.in-Ok.ensures ∙ length-plain_row_of c.args.keys.now c.args.shape c.args.words.now
