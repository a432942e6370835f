use Rattle.std.proofs.Common.{◌<◌, length, bit_xor, ◌∙◌, sym, arith}
use Rattle.dory_base.proofs.TableLaws.{column_more}
use Rattle.dory_table.proofs.slots.column_tag.Goals as goal

pub loop-slot-preserved : goal.loop-slot-preserved
loop-slot-preserved c =
    let inside : c.loop-slot.slot-index < length c.args.slots.now = omega arith in
    c.xor-sum.ensures
    ∙ (λ i. bit_xor (c.loop-slot.invariant i) (c.slot_tag.ensures i))
    ∙ sym (column_more c.args.slots.now c.loop-slot.slot-index c.args.column c.slot-item.result inside c.slot-item.is)
