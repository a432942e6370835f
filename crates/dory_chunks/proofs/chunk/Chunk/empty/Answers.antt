use Rattle.std.proofs.Common.{◌≡◌, map, replicate, None, refl, sym, ap, subst, arith}
use Rattle.std.specs.Option.{option_map}
use Rattle.std.specs.Arc.{arc_value}
use Rattle.std.proofs.lemmas.List.{get_or-replicate}
use Rattle.dory_base.specs.Table.{Slots}
use Rattle.dory_chunks.specs.Marks.{mark_of}
use Rattle.dory_chunks.specs.Parts.{IsChunk, ShowsSlot, row_in}
use Rattle.dory_chunks.proofs.chunk.Chunk.empty.Goals as goal

pub invariant_of-result : goal.invariant_of-result
invariant_of-result g c =
    let slots : Slots = replicate 64 None in
    let chunk : IsChunk c.args.width slots c.in_ok-rows.rows.items = record {
      full = refl;
      narrow = c.requires;
      block = omega (arith, c.in_ok-rows.rows.ok.0, c.in_ok-rows.ensures.len);
      shown = λ k near. subst (ShowsSlot (row_in c.args.width c.in_ok-rows.rows.items k)) (sym (get_or-replicate 64 k None None near)) tt;
    } in
    let marks : c.in_ok-marks.marks.items ≡ map mark_of slots = c.in_ok-marks.ensures in
    let entries : map (option_map arc_value) c.in_ok-entries.entries.items ≡ slots = ap (map (option_map arc_value)) c.in_ok-entries.ensures in
    subst (λ (s : Slots). IsChunk c.args.width s c.in_ok-rows.rows.items × (c.in_ok-marks.marks.items ≡ map mark_of s)) (sym entries) (chunk, marks)
