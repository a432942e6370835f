use mathlib.Core.Path.{ap₂}
use Rattle.std.proofs.Common.{◌≡◌, List, length, map, set, Option, Some, None, ap, ◌∙◌, sym, subst}
use Rattle.std.specs.Option.{option_map, option_copied}
use Rattle.std.specs.Arc.{arc_value}
use Rattle.std.proofs.lemmas.List.{map-set}
use Rattle.dory_base.specs.declared.entry.Entry.{Entry}
use Rattle.dory_base.specs.Table.{Slots}
use Rattle.dory_chunks.specs.declared.chunk.Chunk.TheInside.{Inside}
use Rattle.dory_chunks.specs.declared.marks.Mark.{Mark}
use Rattle.dory_chunks.specs.Marks.{mark_of}
use Rattle.dory_chunks.specs.Parts.{Part, HasWidth, IsChunk, put_in}
use Rattle.dory_chunks.proofs.RowBlock.{put_live, put_empty}
use Rattle.dory_chunks.proofs.chunk.Chunk.put.Goals as goal
use Rattle.dory_chunks.proofs.chunk.Chunk.put.Goals.{in-Some, in_default}

pub invariant_of-self : goal.invariant_of-self
invariant_of-self c =
    let slots : Slots = map (option_map arc_value) c.self.inside.entries.items in
    let x : Option Entry = option_map arc_value c.args.slot in
    let width : c.self.inside.width ≡ c.args.self.now.width = ap (λ (p : Part). p.width) c.self.view_is in
    let put : IsChunk c.match-entry_of.self-inside.width (set (map (option_map arc_value) c.match-entry_of.self-inside.entries.items) c.args.place x) c.match-entry_of.self-inside.rows.items =
    elim c.match-entry_of.branch [
      | in-Some w ↦
          let e : Entry = w.in-Some.entry.now in
          let is : x ≡ Some e = sym c.entry_of-2.ensures ∙ ap option_copied w.in-Some.is in
          let fits : HasWidth c.args.self.now.width (Some e) = subst (HasWidth c.args.self.now.width) is c.requires.width in
          let wide : length w.cells.result.now ≡ c.self.inside.width = w.cells.ensures.exact ∙ fits ∙ sym width in
          let chunk : IsChunk c.self.inside.width (set slots c.args.place (Some e)) w.write_words.new.rows.items =
          put_live c.self.inside.width slots c.self.inside.rows.items w.write_words.new.rows.items c.args.place w.start_of.result e w.cells.result.now c.self.invariant.0 c.requires.place
          w.start_of.ensures.value wide w.cells.ensures w.write_words.ensures.len w.write_words.ensures.there w.write_words.ensures.below w.write_words.ensures.above in
          subst (λ (s : Inside). IsChunk s.width (set (map (option_map arc_value) s.entries.items) c.args.place x) s.rows.items) (sym w.self-inside-is)
          (subst (λ (y : Option Entry). IsChunk c.self.inside.width (set slots c.args.place y) w.write_words.new.rows.items) (sym is) chunk)
      | in_default w ↦
          let is : x ≡ None = sym c.entry_of-2.ensures ∙ ap option_copied w.in_default.is in
          subst (λ (s : Inside). IsChunk s.width (set (map (option_map arc_value) s.entries.items) c.args.place x) s.rows.items) (sym w.self-inside-is)
          (subst (λ (y : Option Entry). IsChunk c.self.inside.width (set slots c.args.place y) c.self.inside.rows.items) (sym is) (put_empty c.self.inside.width slots c.self.inside.rows.items c.args.place c.self.invariant.0 c.requires.place))
    ] in
    let marks : set c.match-entry_of.self-inside.marks.items c.args.place c.marked-mark.result ≡ map mark_of (set (map (option_map arc_value) c.match-entry_of.self-inside.entries.items) c.args.place x) =
    ap₂ (λ (ms : List (Option Mark)) (m : Option Mark). set ms c.args.place m)
    (elim c.match-entry_of.branch [
      | in-Some w ↦ subst (λ (s : Inside). s.marks.items ≡ map mark_of (map (option_map arc_value) s.entries.items)) (sym w.self-inside-is) c.self.invariant.1
      | in_default w ↦ subst (λ (s : Inside). s.marks.items ≡ map mark_of (map (option_map arc_value) s.entries.items)) (sym w.self-inside-is) c.self.invariant.1
    ])
    (c.marked-mark.ensures ∙ ap mark_of c.entry_of.ensures)
    ∙ sym (map-set mark_of (map (option_map arc_value) c.match-entry_of.self-inside.entries.items) c.args.place x) in
    subst (λ (s : Slots). IsChunk c.match-entry_of.self-inside.width s c.match-entry_of.self-inside.rows.items × (set c.match-entry_of.self-inside.marks.items c.args.place c.marked-mark.result ≡ map mark_of s))
    (sym (map-set (option_map arc_value) c.match-entry_of.self-inside.entries.items c.args.place c.args.slot)) (put, marks)

pub returns : goal.returns
returns c =
    let x : Option Entry = option_map arc_value c.args.slot in
    let same : put_in (record { width = c.match-entry_of.self-inside.width; slots = map (option_map arc_value) c.match-entry_of.self-inside.entries.items }) c.args.place x ≡ put_in c.args.self.now c.args.place x =
    ap (λ (p : Part). put_in p c.args.place x)
    (elim c.match-entry_of.branch [
      | in-Some w ↦ ap (λ (s : Inside). let p : Part = record { width = s.width; slots = map (option_map arc_value) s.entries.items } in p) w.self-inside-is ∙ c.self.view_is
      | in_default w ↦ ap (λ (s : Inside). let p : Part = record { width = s.width; slots = map (option_map arc_value) s.entries.items } in p) w.self-inside-is ∙ c.self.view_is
    ]) in
    ap (λ (s : Slots). let p : Part = record { width = c.match-entry_of.self-inside.width; slots = s } in p) (map-set (option_map arc_value) c.match-entry_of.self-inside.entries.items c.args.place c.args.slot) ∙ same
