use Rattle.std.proofs.Common.{◌∙◌}
use Rattle.dory_seal.proofs.Masks.{block_bit_is}
use Rattle.dory_seal.proofs.epoch_keys.EpochKeys.mask_block.Goals as goal

pub returns-clause-bits : goal.returns-clause-bits
returns-clause-bits c column in_block =
    block_bit_is c.args.self.now.keys c.args.doc c.args.id c.args.block column c.of.result (c.of.ensures ∙ c.mask_bytes.ensures) in_block
