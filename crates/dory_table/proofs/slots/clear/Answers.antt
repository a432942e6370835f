use Rattle.std.proofs.Common.{◌<◌, length, arith}
use Rattle.dory_base.specs.Table.{emptied}
use Rattle.dory_table.proofs.SlotLaws.{replaced_more}
use Rattle.dory_table.proofs.slots.clear.Goals as goal

pub loop-slot-preserved : goal.loop-slot-preserved
loop-slot-preserved c =
    let inside : c.loop-slot.slot-index < length c.loop-slot.slot-items = omega arith in
    replaced_more (emptied c.args.doc) c.deref_mut-slot-items.result.now c.loop-slot.slot-items c.loop-slot.slot-index c.slot-item.result c.clear_slot.new.slot
    inside c.loop-slot.auto.slot-items c.loop-slot.invariant c.slot-item.is c.clear_slot.ensures
