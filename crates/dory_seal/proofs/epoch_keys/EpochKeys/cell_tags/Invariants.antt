use Rattle.std.proofs.Common.{◌≡◌, ◌*◌, length, take, map}
use Rattle.dory_seal.specs.Seal.{cell_tag_of}
use Rattle.dory_seal.proofs.epoch_keys.EpochKeys.cell_tags.Given as goal

abbrev pub invariant-loop-run : goal.invariant-loop-run
invariant-loop-run l = (length l.into ≡ length l.cells)
    × (take (64 * l.run) l.into ≡ take (64 * l.run) (map (λ cell. cell_tag_of l.self.keys cell.doc cell.id cell.column cell.cell) l.cells))
