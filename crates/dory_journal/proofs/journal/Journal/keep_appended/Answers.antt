use Rattle.std.proofs.Common.{◌≡◌, inr, Some, sym, ◌∙◌, ap, subst, ◌++◌, ◌∷◌, []}
use Rattle.std.specs.Option.{option_map}
use Rattle.dory_journal.specs.Bytes.{ops_of, piece_of_op}
use Rattle.dory_journal.specs.Ops.Op.{Appends}
use Rattle.dory_journal.specs.Ops.{log_after_op}
use Rattle.dory_journal.specs.Recording.{IsWithOrWithout}
use Rattle.dory_journal.specs.Runs.{LeavesOnly}
use Rattle.dory_journal.specs.Writing.{opened}
use Rattle.dory_journal.proofs.Journals.{at_after, tells_after}
use Rattle.dory_journal.proofs.journal.Journal.keep_appended.Goals as goal

pub returns-in_err-write-clause-any_moment : goal.returns-in_err-write-clause-any_moment
returns-in_err-write-clause-any_moment g c = λ b told.
    c.write.ensures.any_moment (Appends c.args.number c.args.id) c.requires.piece c.requires.lawful b told

pub returns-in_err-write-clause-told : goal.returns-in_err-write-clause-told
returns-in_err-write-clause-told g c = λ b told.
    c.write.ensures.told (Appends c.args.number c.args.id) c.requires.piece c.requires.lawful b told

pub settle-requires-clause-at : goal.settle-requires-clause-at
settle-requires-clause-at g c = λ b told.
    let j = c.args.self.now in
    let op = Appends c.args.number c.args.id in
    let log_is : c.put_commit.new.self.log ≡ log_after_op j.log.log op = ap (λ l. l.log) c.put_commit.ensures ∙ ap (λ l. log_after_op l.log op) c.write.ensures.log in
    at_after j.folder.0 c.write.new.self.folder.0 j.log.log c.put_commit.new.self.log j.gate c.write.new.self.gate op c.args.piece.now (g.D.Disk.told j.disk) (g.D.Disk.told c.write.new.self.disk) b
    (j.at) c.requires.open c.requires.piece c.requires.lawful c.in_ok-write.ensures.bytes told (ap (λ f. f.0) c.write.ensures.folder.0) c.write.ensures.gate log_is

pub returns-clause-bytes : goal.returns-clause-bytes
returns-clause-bytes g c =
    let j = c.args.self.now in
    let piece_is : c.args.piece.now ≡ piece_of_op j.folder.0 (Appends c.args.number c.args.id) = c.requires.piece.is ∙ ap (λ f. f ++ 0 ∷ []) c.requires.piece.frame_is in
    ap g.D.Disk.told c.settle.ensures.disk ∙ c.in_ok-write.ensures.bytes ∙ ap (λ p. option_map (opened j.gate p) (g.D.Disk.told j.disk)) piece_is

pub returns-clause-kept : goal.returns-clause-kept
returns-clause-kept g c = λ b told.
    let j = c.args.self.now in
    let told_new : g.D.Disk.told c.settle.new.self.disk ≡ option_map (opened j.gate c.args.piece.now) (g.D.Disk.told j.disk) =
    ap g.D.Disk.told c.settle.ensures.disk ∙ c.in_ok-write.ensures.bytes in
    tells_after j.folder.0 j.log.log.role j.log.log.shape j.log.log j.gate (Appends c.args.number c.args.id) c.args.piece.now (g.D.Disk.told j.disk) (g.D.Disk.told c.settle.new.self.disk) b
    (j.at b c.requires.open told) c.requires.piece c.requires.lawful told told_new

pub returns-clause-told : goal.returns-clause-told
returns-clause-told g c = λ b told.
    let j = c.args.self.now in
    let told_new : g.D.Disk.told c.settle.new.self.disk ≡ option_map (opened j.gate c.args.piece.now) (g.D.Disk.told j.disk) =
    ap g.D.Disk.told c.settle.ensures.disk ∙ c.in_ok-write.ensures.bytes in
    let kept = tells_after j.folder.0 j.log.log.role j.log.log.shape j.log.log j.gate (Appends c.args.number c.args.id) c.args.piece.now (g.D.Disk.told j.disk) (g.D.Disk.told c.settle.new.self.disk) b
    (j.at b c.requires.open told) c.requires.piece c.requires.lawful told told_new in
    (kept.0, kept.1, inr kept.2)

pub returns-clause-any_moment : goal.returns-clause-any_moment
returns-clause-any_moment g c = λ b told.
    let j = c.args.self.now in
    let run = c.write.ensures.any_moment (Appends c.args.number c.args.id) c.requires.piece c.requires.lawful b told in
    subst (λ d. LeavesOnly g.D.Disk.moment g.D.Disk.left_since j.disk d (IsWithOrWithout j.folder.0 j.log.log.role j.log.log.shape (ops_of j.folder.0 j.log.log.role j.log.log.shape b) (Some (Appends c.args.number c.args.id)))) (sym c.settle.ensures.disk) run
