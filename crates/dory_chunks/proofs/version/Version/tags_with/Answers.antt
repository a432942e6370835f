use Rattle.std.proofs.Common.{◌≡◌, ◌<◌, ◌≤◌, ◌^◌, ℕ, length, map, get_or, List, Option, None, bit_xor, ap, sym, subst, ◌∙◌, arith}
use mathlib.Core.Path.{ap₂}
use Rattle.std.specs.Arc.{arc_value}
use Rattle.std.specs.Option.{option_copied}
use Rattle.dory_base.specs.Table.{Slots}
use Rattle.dory_base.specs.TableMeaning.{Kept}
use Rattle.dory_base.specs.declared.entry.Entry.{Entry}
use Rattle.dory_chunks.specs.Marks.{HasTags, tag_at}
use Rattle.dory_chunks.specs.Parts.{Part, slots_in}
use Rattle.dory_chunks.specs.Target.{written}
use Rattle.dory_chunks.specs.Versions.{AreTags}
use Rattle.dory_chunks.proofs.ColumnLaws.{column_written, has_tags}
use Rattle.dory_chunks.proofs.version.Version.tags_with.Goals as goal

pub xor_slot-requires : goal.xor_slot-requires
xor_slot-requires c =
    let parts : List Part = map arc_value c.self.inside.chunks.items in
    let slots : Slots = slots_in (c.self.inside.count) parts in
    let columns : length c.in_ok-tags.tags.items ≡ 2 ^ c.self.inside.shape.depth = ap (length {A = ℕ}) (c.in_ok-tags.ensures ∙ c.deref.ensures.value) ∙ c.self.invariant.0.sums.columns in
    let slot : option_copied c.slot.result ≡ get_or slots c.args.n None = c.slot.ensures ∙ ap (λ (t : Kept). get_or t.slots c.args.n None) (sym c.self.view_is) in
    subst (λ (n : ℕ). HasTags n (option_copied c.slot.result)) (sym columns)
    (subst (HasTags (2 ^ c.self.inside.shape.depth)) (sym slot) (has_tags c.self.inside.shape (get_or slots c.args.n None) (c.self.invariant.0.posts c.args.n)))

pub returns : goal.returns
returns c =
    let parts : List Part = map arc_value c.self.inside.chunks.items in
    let slots : Slots = slots_in (c.self.inside.count) parts in
    let x : Option Entry = option_copied c.args.slot in
    let n : ℕ = c.args.n in
    let tags : c.in_ok-tags.tags.items ≡ c.self.inside.tags.items = c.in_ok-tags.ensures ∙ c.deref.ensures.value in
    let columns : length c.in_ok-tags.tags.items ≡ 2 ^ c.self.inside.shape.depth = ap (length {A = ℕ}) tags ∙ c.self.invariant.0.sums.columns in
    let place : n ≤ length slots = subst (λ (t : Kept). n ≤ length t.slots) (sym c.self.view_is) c.requires.place in
    let slot : option_copied c.slot.result ≡ get_or slots n None = c.slot.ensures ∙ ap (λ (t : Kept). get_or t.slots n None) (sym c.self.view_is) in
    let sums : AreTags c.self.inside.shape (written slots n x) c.xor_slot-2.new.sums.items = record {
      columns = c.xor_slot-2.ensures.len ∙ c.xor_slot.ensures.len ∙ columns;
      tagged = λ column h.
          let first : column < length c.in_ok-tags.tags.items = omega (arith, columns) in
          let second : column < length c.xor_slot.new.sums.items = omega (arith, columns, c.xor_slot.ensures.len) in
          c.xor_slot-2.ensures.each column second
          ∙ ap (λ (t : ℕ). bit_xor t (tag_at x column))
          (c.xor_slot.ensures.each column first
          ∙ ap₂ (λ (t : ℕ) (s : Option Entry). bit_xor t (tag_at s column)) (ap (λ (ts : List ℕ). get_or ts column 0) tags ∙ c.self.invariant.0.sums.tagged column h) slot)
          ∙ sym (column_written slots n x column place);
    } in
    subst (λ (t : Kept). AreTags t.shape (written t.slots n x) c.xor_slot-2.new.sums.items) c.self.view_is sums
