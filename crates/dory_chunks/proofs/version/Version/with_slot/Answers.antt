use Rattle.std.proofs.Common.{◌≡◌, ◌+◌, ◌/◌, ◌≤◌, ℕ, length, map, List, Option, ap, sym, subst, ◌∙◌}
use Rattle.std.specs.Option.{option_map}
use Rattle.std.specs.Arc.{arc_value}
use Rattle.dory_base.specs.Table.{Slots}
use Rattle.dory_base.specs.TableMeaning.{Kept, IsSlotOf}
use Rattle.dory_base.specs.declared.entry.Entry.{Entry}
use Rattle.dory_chunks.specs.Parts.{Part, slots_in, parts_with}
use Rattle.dory_chunks.specs.Target.{written, IsAlone}
use Rattle.dory_chunks.specs.Versions.{AreTags, width_of}
use Rattle.dory_chunks.proofs.ColumnLaws.{is_narrow}
use Rattle.dory_chunks.proofs.VersionLaws.{IsNext, is_next}
use Rattle.dory_chunks.proofs.version.Version.with_slot.Goals as goal

pub chunks_with-requires-clause-narrow : goal.chunks_with-requires-clause-narrow
chunks_with-requires-clause-narrow g c =
    let narrow : width_of c.self.inside.shape ≤ 32 = is_narrow c.self.inside.shape c.self.invariant.0.dims in
    subst (λ (n : ℕ). (n + 63) / 64 ≤ 32) (sym c.columns.ensures.value) narrow

pub invariant_of-result : goal.invariant_of-result
invariant_of-result g c =
    let parts : List Part = map arc_value c.self.inside.chunks.items in
    let now : List Part = map arc_value c.in_ok-chunks.chunks.items in
    let x : Option Entry = option_map arc_value c.args.slot in
    let slots : Slots = slots_in (c.self.inside.count) parts in
    let parts_are : now ≡ parts_with (width_of c.self.inside.shape) parts c.args.n x =
    c.in_ok-chunks.ensures.value ∙ ap (λ (n : ℕ). parts_with ((n + 63) / 64) parts c.args.n x) c.columns.ensures.value in
    let told : AreTags c.args.self.now.shape (written c.args.self.now.slots c.args.n x) c.in_ok-tags.tags.items =
    subst (λ (s : Option Entry). AreTags c.args.self.now.shape (written c.args.self.now.slots c.args.n s) c.in_ok-tags.tags.items) c.entry_of.ensures c.in_ok-tags.ensures in
    let sums : AreTags c.self.inside.shape (written slots c.args.n x) c.in_ok-tags.tags.items =
    subst (λ (t : Kept). AreTags t.shape (written t.slots c.args.n x) c.in_ok-tags.tags.items) (sym c.self.view_is) told in
    let place : c.args.n ≤ length slots = subst (λ (t : Kept). c.args.n ≤ length t.slots) (sym c.self.view_is) c.requires.place in
    let fits : IsSlotOf c.self.inside.shape x = subst (λ (t : Kept). IsSlotOf t.shape x) (sym c.self.view_is) c.requires.posts in
    let alone : IsAlone slots c.args.n x = subst (λ (t : Kept). IsAlone t.slots c.args.n x) (sym c.self.view_is) c.requires.alone in
    let next : IsNext c.self.inside.shape (written slots c.args.n x) now c.count_with.result c.in_ok-tags.tags.items =
    is_next c.self.inside.shape parts now c.self.inside.count c.count_with.result c.self.inside.tags.items c.in_ok-tags.tags.items c.args.n x c.self.invariant.0 c.self.invariant.1
    place c.requires.few fits alone c.count_with.ensures parts_are sums in
    (next.kept, next.reach)

pub returns-clause-value : goal.returns-clause-value
returns-clause-value g c =
    let parts : List Part = map arc_value c.self.inside.chunks.items in
    let now : List Part = map arc_value c.in_ok-chunks.chunks.items in
    let x : Option Entry = option_map arc_value c.args.slot in
    let slots : Slots = slots_in (c.self.inside.count) parts in
    let parts_are : now ≡ parts_with (width_of c.self.inside.shape) parts c.args.n x =
    c.in_ok-chunks.ensures.value ∙ ap (λ (n : ℕ). parts_with ((n + 63) / 64) parts c.args.n x) c.columns.ensures.value in
    let told : AreTags c.args.self.now.shape (written c.args.self.now.slots c.args.n x) c.in_ok-tags.tags.items =
    subst (λ (s : Option Entry). AreTags c.args.self.now.shape (written c.args.self.now.slots c.args.n s) c.in_ok-tags.tags.items) c.entry_of.ensures c.in_ok-tags.ensures in
    let sums : AreTags c.self.inside.shape (written slots c.args.n x) c.in_ok-tags.tags.items =
    subst (λ (t : Kept). AreTags t.shape (written t.slots c.args.n x) c.in_ok-tags.tags.items) (sym c.self.view_is) told in
    let place : c.args.n ≤ length slots = subst (λ (t : Kept). c.args.n ≤ length t.slots) (sym c.self.view_is) c.requires.place in
    let fits : IsSlotOf c.self.inside.shape x = subst (λ (t : Kept). IsSlotOf t.shape x) (sym c.self.view_is) c.requires.posts in
    let alone : IsAlone slots c.args.n x = subst (λ (t : Kept). IsAlone t.slots c.args.n x) (sym c.self.view_is) c.requires.alone in
    let next : IsNext c.self.inside.shape (written slots c.args.n x) now c.count_with.result c.in_ok-tags.tags.items =
    is_next c.self.inside.shape parts now c.self.inside.count c.count_with.result c.self.inside.tags.items c.in_ok-tags.tags.items c.args.n x c.self.invariant.0 c.self.invariant.1
    place c.requires.few fits alone c.count_with.ensures parts_are sums in
    ap (λ (s : Slots). let t : Kept = record { shape = c.self.inside.shape; number = c.self.inside.number + 1; slots = s } in t) next.slots_are
    ∙ ap (λ (k : Kept). let t : Kept = record { shape = k.shape; number = k.number + 1; slots = written k.slots c.args.n x } in t) c.self.view_is
