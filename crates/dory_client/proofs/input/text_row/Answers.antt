use Rattle.dory_client.proofs.Reading.{row_len}
use Rattle.dory_client.proofs.input.text_row.Goals as goal

pub returns-clause-len : goal.returns-clause-len
returns-clause-len c = row_len c.args.keys.now c.args.shape c.deref.result.now c.plain_row.result c.plain_row.ensures
