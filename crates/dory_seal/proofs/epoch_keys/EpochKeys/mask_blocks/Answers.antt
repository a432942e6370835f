use Rattle.std.proofs.Common.{◌≡◌, ℕ, List, ◌+◌, ◌-◌, ◌*◌, ◌/◌, length, refl, arith}
use Rattle.dory_seal.specs.Seal.{mask_block_of}
use Rattle.dory_seal.specs.declared.mask.Block.{Block}
use Rattle.dory_seal.proofs.Written.{part_written, last_part_written}
use Rattle.dory_seal.proofs.epoch_keys.EpochKeys.mask_blocks.Goals as goal

pub loop-run-preserved : goal.loop-run-preserved
loop-run-preserved c =
    let mask_at : Block → List ℕ = λ block. mask_block_of c.args.self.now.keys block.doc block.id block.block in
    let a : ℕ = 64 * c.loop-run.run in
    part_written mask_at c.args.blocks.now c.loop-run.into c.masks_of_run.new.into a (a + 64 - a) (a + 64 - a) (64 * (c.loop-run.run + 1))
    c.loop-run.invariant.0 refl (omega arith) (omega arith) c.loop-run.invariant.1 c.masks_of_run.ensures

pub returns : goal.returns
returns c =
    let mask_at : Block → List ℕ = λ block. mask_block_of c.args.self.now.keys block.doc block.id block.block in
    let a : ℕ = length c.args.blocks.now / 64 * 64 in
    let at : 64 * c.loop-run.run ≡ a = omega arith in
    last_part_written mask_at c.args.blocks.now c.loop-run.into c.masks_of_run-2.new.into a (length c.loop-run.into - a) (length c.args.blocks.now - a)
    c.loop-run.invariant.0 (omega (arith, c.loop-run.invariant.0)) (omega (arith, c.loop-run.invariant.0))
    (rw at at c.loop-run.invariant.1) c.masks_of_run-2.ensures
