use Rattle.std.proofs.Common.{◌≡◌, ◌*◌, length, take, map}
use Rattle.dory_seal.specs.Seal.{mask_block_of}
use Rattle.dory_seal.proofs.epoch_keys.EpochKeys.mask_blocks.Given as goal

abbrev pub invariant-loop-run : goal.invariant-loop-run
invariant-loop-run l = (length l.into ≡ length l.blocks)
    × (take (64 * l.run) l.into ≡ take (64 * l.run) (map (λ block. mask_block_of l.self.keys block.doc block.id block.block) l.blocks))
