use Rattle.std.proofs.Common.{◌+◌, sym, ◌∙◌, ap, subst}
use Rattle.std.specs.Option.{option_map}
use Rattle.dory_journal.proofs.Moments.{joined, widened}
use Rattle.dory_journal.proofs.Pieces.{behind_left, gate_left, within_behind}
use Rattle.dory_journal.proofs.writing.write_behind.Goals as goal
use Rattle.dory_disk.specs.Disk.{IsWithin, overwritten}
use Rattle.dory_journal.specs.Writing.{IsLeft}

pub write_synced-requires-2 : goal.write_synced-requires-2
write_synced-requires-2 g c =
    subst (λ told. IsWithin told c.args.gate) (sym c.in_ok-write_synced.ensures.bytes) (within_behind c.args.gate c.args.piece.now (g.D.Disk.told c.args.disk.now) c.requires.within)

pub returns-clause-any_moment : goal.returns-clause-any_moment
returns-clause-any_moment g c = λ b told durable.
    let told_mid = c.in_ok-write_synced.ensures.bytes ∙ ap (option_map (overwritten (c.args.gate + 1) c.args.piece.now)) told in
    let first = widened g.D.Disk.moment g.D.Disk.left_since c.args.disk.now c.write_synced.new.disk _ (IsLeft c.args.gate c.args.piece.now b) (c.write_synced.ensures.any_moment b told durable) (behind_left c.args.gate c.args.piece.now b) in
    let second = widened g.D.Disk.moment g.D.Disk.left_since c.write_synced.new.disk c.write_synced-2.new.disk _ (IsLeft c.args.gate c.args.piece.now b)
    (c.write_synced-2.ensures.any_moment _ told_mid c.in_ok-write_synced.ensures.durable) (λ left. gate_left c.args.gate c.args.piece.now b left (subst (λ t. IsWithin t (c.args.gate + 1)) told c.requires.within)) in
    joined g.D.Disk.moment g.D.Disk.left_since c.args.disk.now c.write_synced.new.disk c.write_synced-2.new.disk (IsLeft c.args.gate c.args.piece.now b) first second

pub returns-clause-told : goal.returns-clause-told
returns-clause-told g c = λ b told.
    let mid = c.write_synced.ensures.told b told in c.write_synced-2.ensures.told mid.0 mid.1
