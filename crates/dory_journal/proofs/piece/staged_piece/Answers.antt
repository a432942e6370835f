use Rattle.std.proofs.Common.{rules, ◌≡◌, sym}
use Rattle.std.specs.Arc.{arc_value}
use Rattle.dory_journal.specs.Ops.Op.{Stages}
use Rattle.dory_journal.proofs.piece.staged_piece.Goals as goal

pub returns : goal.returns
returns c =
    let kept : arc_value c.in_ok-kept.kept ≡ c.args.entry.now = search rules in (c.in_ok-piece.ensures (Stages c.args.entry.now) (sym c.requires.staging), kept)
