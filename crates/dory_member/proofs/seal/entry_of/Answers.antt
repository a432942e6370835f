use Rattle.std.proofs.Common.{sym, subst}
use Rattle.dory_wire.specs.Spelling.{IsEntry}
use Rattle.dory_member.proofs.Entries.{entry_range}
use Rattle.dory_member.proofs.seal.entry_of.Goals as goal

pub returns-in-Ok-clause-range : goal.returns-in-Ok-clause-range
returns-in-Ok-clause-range c = subst IsEntry (sym c.in-Ok.ensures) (entry_range c.args.state.now c.args.update.now c.requires.state c.requires.update)
