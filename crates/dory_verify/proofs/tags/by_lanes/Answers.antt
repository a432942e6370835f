use Rattle.std.proofs.Common.{◌≡◌, ◌≤◌, ap, sym, ◌∙◌, arith, length, take, drop, get_or, false}
use Rattle.std.proofs.lemmas.List.{get_or-take, get_or-drop, length-take-le, length-drop}
use Rattle.dory_base.specs.Sum.{xor_all}
use Rattle.dory_seal.specs.declared.cell.Cell.{Cell}
use Rattle.dory_seal.specs.Seal.{cell_tag_of}
use Rattle.dory_verify.specs.Tags.{line_tag}
use Rattle.dory_verify.proofs.TagRuns.{lanes}
use Rattle.dory_verify.proofs.Going.{no_place, no_cell}
use Rattle.dory_verify.proofs.tags.by_lanes.Goals as goal

pub returns : goal.returns
returns c =
    let keys = c.args.keys.now.keys in
    let places = c.args.places.now in
    let bits = c.args.bits.now in
    let cells = c.loop-i.cells in
    let g = λ (cell : Cell). cell_tag_of keys cell.doc cell.id cell.column cell.cell in
    let n : length (take (length places) cells) ≡ length places = length-take-le (length places) cells (omega (arith, c.loop-i.invariant.0, c.requires.few)) in
    let m : length places ≤ length (drop c.args.from bits) = omega (arith, length-drop c.args.from bits, c.requires.near) in
    c.xor_all.ensures ∙ ap xor_all (c.cell_tags.ensures ∙ lanes (line_tag keys c.args.column) g (take (length places) cells) places (drop c.args.from bits) no_cell no_place n m (λ k h.
    ap g (get_or-take (length places) cells k no_cell h ∙ c.loop-i.invariant.1 k no_cell (omega arith))
    ∙ ap (λ b. line_tag keys c.args.column (get_or places k no_place) b) (sym (get_or-drop c.args.from bits k false))))
