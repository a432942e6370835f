use Rattle.std.proofs.Common.{rules, ◌≡◌, ◌++◌, ◌∷◌, [], length}
use Rattle.dory_disk.specs.Disk.{overwritten}
use Rattle.dory_disk.specs.declared.mem_disk.Done.TheVariants.{Wrote}
use Rattle.dory_disk.proofs.Remembering.{write_replayed, write_begun, write_size, write_follows, write_torn, write_elapses}
use Rattle.dory_disk.proofs.mem_disk.MemDiskDisk.write_at.Goals as goal

pub invariant_of-self-clause-replayed : goal.invariant_of-self-clause-replayed
invariant_of-self-clause-replayed c =
    let d = c.args.self.now in
    let done_is : c.push_within.new.done.items ≡ d.done.items ++ Wrote c.args.place (length c.args.piece.now) ∷ [] = search rules in
    let text_is : c.extend_within.new.bytes.items ≡ d.text.items ++ c.args.piece.now = search rules in
    let bytes_is : c.overwrite.new.bytes.items ≡ overwritten c.args.place c.args.piece.now d.bytes.items = search rules in
    write_replayed d.done.items c.push_within.new.done.items d.text.items c.extend_within.new.bytes.items c.args.piece.now c.args.place done_is text_is d.size d.bytes.items c.overwrite.new.bytes.items d.replayed bytes_is

pub invariant_of-self-clause-begun : goal.invariant_of-self-clause-begun
invariant_of-self-clause-begun c =
    let d = c.args.self.now in
    let done_is : c.push_within.new.done.items ≡ d.done.items ++ Wrote c.args.place (length c.args.piece.now) ∷ [] = search rules in
    let text_is : c.extend_within.new.bytes.items ≡ d.text.items ++ c.args.piece.now = search rules in
    write_begun d.done.items c.push_within.new.done.items d.text.items c.extend_within.new.bytes.items c.args.piece.now c.args.place done_is text_is d.size d.bytes.items d.replayed d.begun c.requires

pub invariant_of-self-clause-size : goal.invariant_of-self-clause-size
invariant_of-self-clause-size c =
    let d = c.args.self.now in
    let done_is : c.push_within.new.done.items ≡ d.done.items ++ Wrote c.args.place (length c.args.piece.now) ∷ [] = search rules in
    let text_is : c.extend_within.new.bytes.items ≡ d.text.items ++ c.args.piece.now = search rules in
    write_size d.done.items c.push_within.new.done.items d.text.items c.extend_within.new.bytes.items c.args.piece.now c.args.place done_is text_is d.size

pub returns-clause-crash : goal.returns-clause-crash
returns-clause-crash c =
    let d = c.args.self.now in
    let done_is : c.push_within.new.done.items ≡ d.done.items ++ Wrote c.args.place (length c.args.piece.now) ∷ [] = search rules in
    let text_is : c.extend_within.new.bytes.items ≡ d.text.items ++ c.args.piece.now = search rules in
    write_follows d.done.items c.push_within.new.done.items d.text.items c.extend_within.new.bytes.items c.args.piece.now c.args.place done_is text_is d.size

pub returns-clause-time : goal.returns-clause-time
returns-clause-time c =
    let d = c.args.self.now in
    let done_is : c.push_within.new.done.items ≡ d.done.items ++ Wrote c.args.place (length c.args.piece.now) ∷ [] = search rules in
    let text_is : c.extend_within.new.bytes.items ≡ d.text.items ++ c.args.piece.now = search rules in
    write_elapses d.done.items c.push_within.new.done.items d.text.items c.extend_within.new.bytes.items c.args.piece.now c.args.place done_is text_is d.size

pub returns-clause-torn : goal.returns-clause-torn
returns-clause-torn c =
    let d = c.args.self.now in
    let done_is : c.push_within.new.done.items ≡ d.done.items ++ Wrote c.args.place (length c.args.piece.now) ∷ [] = search rules in
    let text_is : c.extend_within.new.bytes.items ≡ d.text.items ++ c.args.piece.now = search rules in
    write_torn d.done.items c.push_within.new.done.items d.text.items c.extend_within.new.bytes.items c.args.piece.now c.args.place done_is text_is d.size
