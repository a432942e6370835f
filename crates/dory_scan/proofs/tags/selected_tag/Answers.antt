use Rattle.std.proofs.Common.{◌≡◌, ℕ, ◌<◌, Bool, true, false, List, length, get_or, bit_xor, ◌∙◌, sym, arith}
use Rattle.dory_base.specs.Table.{Live, live_of}
use Rattle.dory_base.proofs.Selected.{selected_none, selected_more, passed_more}
use Rattle.dory_scan.proofs.tags.selected_tag.Goals as goal
use Rattle.dory_scan.proofs.tags.selected_tag.Goals.{then-get, else-get}

pub loop-column-init : goal.loop-column-init
loop-column-init g c = c.zero-tag.ensures ∙ sym (selected_none (live_of (g.T.SlotTable.meaning c.args.table.now).slots))

pub loop-column-preserved : goal.loop-column-preserved
loop-column-preserved g c =
    let s : List Bool = c.args.selector.now in
    let ls : List Live = live_of (g.T.SlotTable.meaning c.args.table.now).slots in
    let j : ℕ = c.loop-column.column in
    let h : j < length s = let e : c.len-column-end.result ≡ length s = c.len-column-end.ensures.value in omega arith in
    elim c.if-get.branch [
      | then-get w ↦
          let is : get_or s j false ≡ true = sym c.get.ensures ∙ w.if-get.true in
          w.tag-is ∙ w.xor-tag.ensures ∙ (λ i. bit_xor (c.loop-column.invariant i) (w.column_tag.ensures.value i)) ∙ sym (selected_more s ls j h is)
      | else-get w ↦
          let is : get_or s j false ≡ false = sym c.get.ensures ∙ w.if-get.false in
          w.tag-is ∙ c.loop-column.invariant ∙ sym (passed_more s ls j h is)
    ]
