use Rattle.std.proofs.Common.{◌≡◌, length, take, map}
use Rattle.dory_seal.specs.Message.{cell_message}
use Rattle.dory_seal.proofs.epoch_keys.EpochKeys.tags_of_run.Given as goal

abbrev pub invariant-loop-i : goal.invariant-loop-i
invariant-loop-i l = (length l.messages ≡ 64) × (take l.i l.messages ≡ take l.i (map (λ cell. cell_message cell.doc cell.id cell.column cell.cell) l.cells))
