use Rattle.std.proofs.Common.{◌∙◌}
use Rattle.dory_journal.proofs.Pieces.{still_told}
use Rattle.dory_journal.proofs.writing.write_synced.Goals as goal

pub returns-in_err-write_at-clause-told : goal.returns-in_err-write_at-clause-told
returns-in_err-write_at-clause-told g c = still_told c.args.place c.args.piece.now (g.D.Disk.told c.args.disk.now) (g.D.Disk.told c.write_at.new.self) c.write_at.result c.write_at.ensures.bytes

pub returns-clause-told : goal.returns-clause-told
returns-clause-told g c = λ b told.
    let mid = still_told c.args.place c.args.piece.now (g.D.Disk.told c.args.disk.now) (g.D.Disk.told c.write_at.new.self) c.write_at.result c.write_at.ensures.bytes b told in
    (mid.0, c.sync.ensures.same ∙ mid.1)
