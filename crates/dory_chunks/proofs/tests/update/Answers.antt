use Rattle.dory_chunks.proofs.tests.update.Goals as goal

pub returns-then-serial-eq0 : goal.returns-then-serial-eq0
returns-then-serial-eq0 c = c.remove.ensures c.args.shape
