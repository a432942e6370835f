use Rattle.std.proofs.Common.{Some}
use Rattle.dory_journal.specs.Bytes.{ops_of}
use Rattle.dory_journal.specs.Recording.{IsWithOrWithout}
use Rattle.dory_journal.specs.Writing.{IsLeft}
use Rattle.dory_journal.proofs.Moments.{widened}
use Rattle.dory_journal.proofs.Crashes.{left_is}
use Rattle.dory_journal.proofs.journal.Journal.write.Goals as goal

pub returns-clause-any_moment : goal.returns-clause-any_moment
returns-clause-any_moment g c = λ op piece lawful b told.
    let j = c.args.self.now in
    let folder = j.folder.0 in
    let role = j.log.log.role in
    let shape = j.log.log.shape in
    let is = j.at b c.requires told in
    widened g.D.Disk.moment g.D.Disk.left_since j.disk c.write_behind.new.disk (IsLeft j.gate c.args.piece.now b) (IsWithOrWithout folder role shape (ops_of folder role shape b) (Some op))
    (c.write_behind.ensures.any_moment b told (j.durable c.requires))
    (λ left. left_is folder role shape j.log.log j.gate b is op c.args.piece.now left piece lawful)

pub returns-clause-told : goal.returns-clause-told
returns-clause-told g c = λ op piece lawful b told.
    let j = c.args.self.now in
    let folder = j.folder.0 in
    let role = j.log.log.role in
    let shape = j.log.log.shape in
    let is = j.at b c.requires told in
    let now = c.write_behind.new.disk in
    let run = widened g.D.Disk.moment g.D.Disk.left_since j.disk now (IsLeft j.gate c.args.piece.now b) (IsWithOrWithout folder role shape (ops_of folder role shape b) (Some op))
    (c.write_behind.ensures.any_moment b told (j.durable c.requires))
    (λ left. left_is folder role shape j.log.log j.gate b is op c.args.piece.now left piece lawful) in
    let still = c.write_behind.ensures.told b told in
    (still.0, still.1, run.each still.0 (g.met.D.Disk.counts_now now (g.D.Disk.moment j.disk) still.0 run.later (g.met.D.Disk.reads_now now still.0 still.1)))
