use Rattle.std.proofs.Common.{refl, sym, subst}
use Rattle.dory_journal.specs.Ops.Op.{Appends}
use Rattle.dory_journal.specs.Recording.{IsPiece}
use Rattle.dory_journal.proofs.journal.Journal.append.Goals as goal

pub keep_appended-requires-clause-piece : goal.keep_appended-requires-clause-piece
keep_appended-requires-clause-piece g c =
    let op = Appends c.args.number c.args.id in subst (IsPiece c.args.self.now.folder.0 op) (sym c.deref.ensures.value) (c.in_ok-piece.ensures op refl)
