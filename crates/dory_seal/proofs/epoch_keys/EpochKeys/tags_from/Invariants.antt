use Rattle.std.proofs.Common.{◌≡◌, false, get_or, length, take, map}
use Rattle.std.specs.List.{range_with_len}
use Rattle.dory_seal.specs.Message.{cell_message}
use Rattle.dory_seal.proofs.epoch_keys.EpochKeys.tags_from.Given as goal

abbrev pub invariant-loop-i : goal.invariant-loop-i
invariant-loop-i l = (length l.messages ≡ 64) × (take l.i l.messages ≡ map (λ j. cell_message l.doc l.id j (get_or l.row j false)) (range_with_len l.from l.i))
