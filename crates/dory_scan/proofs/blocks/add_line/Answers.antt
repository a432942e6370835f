use Rattle.std.proofs.Common.{◌≡◌, ◌^◌, ◌≤◌, Bool, List, [], length, get_or, cond, Option, Some, None, ap, ◌∙◌, sym, arith}
use Rattle.dory_base.specs.declared.entry.Entry.{Entry}
use Rattle.dory_base.specs.Sum.{parity, row_of}
use Rattle.dory_base.specs.TableMeaning.{Kept}
use Rattle.dory_scan.proofs.LineLaws.{row_there, few_cells, IsLineOf, line_is}
use Rattle.dory_scan.proofs.blocks.add_line.Goals as goal

pub mark-requires-clause-few : goal.mark-requires-clause-few
mark-requires-clause-few g c =
    let t : Kept = g.T.SlotTable.meaning c.args.table.now in
    let live = c.in-Some.ensures.live in
    let cells : length (row_of live.0.change) ≡ 2 ^ t.shape.depth = row_there t c.args.slot.slot live.0 c.in-Some.ensures.kept live.1 in
    omega (arith, live.2.exact, cells, few_cells t.shape c.in-Some.ensures.kept.dims)

pub returns-in-Some-clause-here : goal.returns-in-Some-clause-here
returns-in-Some-clause-here g c = λ line h is s low.
    let t : Kept = g.T.SlotTable.meaning c.args.table.now in
    let live = c.in-Some.ensures.live in
    let selector : List Bool = get_or c.args.selectors.now s [] in
    let l : (e : Entry) × IsLineOf t.slots line c.args.slot e = line_is t.slots line c.args.slot h is in
    let same : live.0 ≡ l.0 = let e : ◌≡◌ {A = Option Entry} (Some live.0) (Some l.0) = sym live.1 ∙ l.1.there in cc in
    let cells : length (row_of live.0.change) ≡ 2 ^ t.shape.depth = row_there t c.args.slot.slot live.0 c.in-Some.ensures.kept live.1 in
    let near : s ≤ s = omega arith in
    let wide : length (row_of live.0.change) ≡ length selector = cells ∙ sym (c.requires.columns s [] (omega (arith, low, c.requires.many))) in
    c.mark.ensures.here (row_of live.0.change) live.2 s low wide
    ∙ ap (λ (e : Entry). cond (parity selector (row_of e.change)) 1 0) same
    ∙ ap (λ (b : Bool). cond b 1 0) (sym (l.1.bit selector))

pub returns-in_default-clause-here : goal.returns-in_default-clause-here
returns-in_default-clause-here g c = λ line h is s low.
    let t : Kept = g.T.SlotTable.meaning c.args.table.now in
    let l : (e : Entry) × IsLineOf t.slots line c.args.slot e = line_is t.slots line c.args.slot h is in
    let none : ◌≡◌ {A = Option Entry} (Some l.0) None = sym l.1.there ∙ c.in_default.ensures.empty in
    absurd (cc)
