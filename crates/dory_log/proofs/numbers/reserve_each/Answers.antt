use Rattle.std.proofs.Common.{◌<◌, length, arith, refl}
use Rattle.std.proofs.lemmas.Option.{slice_get_read}
use Rattle.dory_log.proofs.RoomLaws.{grown_set, room_next, room_all}
use Rattle.dory_log.proofs.numbers.reserve_each.Goals as goal

pub returns-in_err-reserve-clause-grown : goal.returns-in_err-reserve-clause-grown
returns-in_err-reserve-clause-grown c =
    let lists = c.loop-i.lists.items in
    let before = c.args.lists.now.ok in
    let within : c.loop-i.i < length lists = omega (arith, c.loop-i.invariant.0.long, before.0) in
    let there = slice_get_read lists (length lists) c.loop-i.i c.index_mut.result.now refl within c.index_mut.ensures.value in
    grown_set c.args.lists.now.items lists c.loop-i.i c.index_mut.result.now c.reserve.new.self c.loop-i.invariant.0 within there
    c.reserve.ensures.items c.reserve.ensures.len c.reserve.ensures.capacity

pub loop-i-preserved : goal.loop-i-preserved
loop-i-preserved c =
    let lists = c.loop-i.lists.items in
    let before = c.args.lists.now.ok in
    let within : c.loop-i.i < length lists = omega (arith, c.loop-i.invariant.0.long, before.0) in
    let there = slice_get_read lists (length lists) c.loop-i.i c.index_mut.result.now refl within c.index_mut.ensures.value in (
      grown_set c.args.lists.now.items lists c.loop-i.i c.index_mut.result.now c.reserve.new.self c.loop-i.invariant.0 within there
          c.reserve.ensures.items c.reserve.ensures.len c.reserve.ensures.capacity,
      room_next lists c.loop-i.i c.args.more c.reserve.new.self within c.loop-i.invariant.1 c.in_ok-reserve.ensures.ok,
    )

pub returns-clause-room : goal.returns-clause-room
returns-clause-room c =
    let before = c.args.lists.now.ok in
    room_all c.loop-i.lists.items c.loop-i.i c.args.more (omega (arith, c.loop-i.invariant.0.long, before.0)) c.loop-i.invariant.1
