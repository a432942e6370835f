use Rattle.std.proofs.Common.{sym}
use Rattle.dory_member.proofs.Entries.{sealed_is}
use Rattle.dory_member.proofs.seal.sealed.Goals as goal

pub returns-in-Ok : goal.returns-in-Ok
returns-in-Ok c = sym (c.in-Ok.ensures.only _ (rw c.derive-keys.ensures (sealed_is _ c.args.state.now.shape c.args.id c.args.doc c.args.row.now c.requires)))
