use Rattle.std.proofs.Common.{◌≡◌, length, take, map}
use Rattle.dory_seal.specs.Message.{mask_message}
use Rattle.dory_seal.proofs.epoch_keys.EpochKeys.masks_of_run.Given as goal

abbrev pub invariant-loop-i : goal.invariant-loop-i
invariant-loop-i l = (length l.messages ≡ 64) × (take l.i l.messages ≡ take l.i (map (λ block. mask_message block.doc block.id block.block) l.blocks))
