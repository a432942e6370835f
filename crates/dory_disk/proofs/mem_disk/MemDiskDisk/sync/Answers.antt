use Rattle.std.proofs.Common.{rules, ◌≡◌, ◌++◌, ◌∷◌, [], Some, length, ◌∙◌, ap, subst}
use Rattle.dory_disk.specs.Disk.{Elapses}
use Rattle.dory_disk.specs.Remembered.{MayLeave, LeftSince}
use Rattle.dory_disk.specs.declared.mem_disk.Done.TheVariants.{Synced}
use Rattle.dory_disk.proofs.Remembering.{sync_replayed, sync_begun, sync_size, sync_leaves, sync_within, sync_elapses}
use Rattle.dory_disk.proofs.mem_disk.MemDiskDisk.sync.Goals as goal

pub invariant_of-self-clause-replayed : goal.invariant_of-self-clause-replayed
invariant_of-self-clause-replayed c =
    let d = c.args.self.now in
    let m = c.refuses.new.self in
    let done_is : c.push_within.new.done.items ≡ m.done.items ++ Synced ∷ [] = search rules in
    sync_replayed m.done.items c.push_within.new.done.items m.text.items done_is m.size m.bytes.items m.replayed

pub invariant_of-self-clause-begun : goal.invariant_of-self-clause-begun
invariant_of-self-clause-begun c =
    let d = c.args.self.now in
    let m = c.refuses.new.self in
    let done_is : c.push_within.new.done.items ≡ m.done.items ++ Synced ∷ [] = search rules in
    sync_begun m.done.items c.push_within.new.done.items m.text.items done_is m.size m.begun

pub invariant_of-self-clause-size : goal.invariant_of-self-clause-size
invariant_of-self-clause-size c =
    let d = c.args.self.now in
    let m = c.refuses.new.self in
    let done_is : c.push_within.new.done.items ≡ m.done.items ++ Synced ∷ [] = search rules in
    sync_size m.done.items c.push_within.new.done.items m.text.items done_is m.size

pub returns-clause-durable : goal.returns-clause-durable
returns-clause-durable c = λ b left.
    let d = c.args.self.now in
    let m = c.refuses.new.self in
    let done_is : c.push_within.new.done.items ≡ m.done.items ++ Synced ∷ [] = search rules in
    let bytes_is : d.bytes.items ≡ m.bytes.items = search rules in
    ap Some (bytes_is ∙ sync_leaves m.done.items c.push_within.new.done.items m.text.items done_is m.size m.bytes.items b m.replayed left)

pub returns-clause-crash : goal.returns-clause-crash
returns-clause-crash c = λ b left.
    let d = c.args.self.now in
    let m = c.refuses.new.self in
    let done_is : c.push_within.new.done.items ≡ m.done.items ++ Synced ∷ [] = search rules in
    let before : MayLeave m.done.items m.text.items b = sync_within m.done.items c.push_within.new.done.items m.text.items done_is m.size m.bytes.items m.replayed m.begun b left in
    let done_same : m.done ≡ d.done = c.refuses.ensures.same.1 in
    let text_same : m.text ≡ d.text = c.refuses.ensures.same.2 in
    subst (λ v. MayLeave v.items d.text.items b) done_same (subst (λ t. MayLeave m.done.items t.items b) text_same before)

pub returns-clause-time : goal.returns-clause-time
returns-clause-time c =
    let d = c.args.self.now in
    let m = c.refuses.new.self in
    let done_is : c.push_within.new.done.items ≡ m.done.items ++ Synced ∷ [] = search rules in
    let here = sync_elapses m.done.items c.push_within.new.done.items m.text.items done_is m.size in
    let done_same : m.done ≡ d.done = c.refuses.ensures.same.1 in
    let text_same : m.text ≡ d.text = c.refuses.ensures.same.2 in
    subst (λ v. Elapses (length v.items) (length c.push_within.new.done.items) (LeftSince v.items d.text.items) (LeftSince c.push_within.new.done.items m.text.items) (MayLeave c.push_within.new.done.items m.text.items)) done_same
    (subst (λ t. Elapses (length m.done.items) (length c.push_within.new.done.items) (LeftSince m.done.items t.items) (LeftSince c.push_within.new.done.items m.text.items) (MayLeave c.push_within.new.done.items m.text.items)) text_same here)
