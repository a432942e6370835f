use Rattle.std.proofs.Common.{◌≡◌, refl}
use Rattle.std.proofs.lemmas.List.Elements.{All-replicate, All-set}
use Rattle.dory_seal.specs.Epoch.{epoch_of}
use Rattle.dory_seal.specs.declared.mask.Block.{Block}
use Rattle.dory_bench.proofs.hashing.blocks.Goals as goal

pub loop-i-init : goal.loop-i-init
loop-i-init c = All-replicate (λ (block : Block). epoch_of block.id ≡ epoch_of c.args.id) 64 _ refl

pub loop-i-preserved : goal.loop-i-preserved
loop-i-preserved c = All-set (λ (block : Block). epoch_of block.id ≡ epoch_of c.args.id) c.loop-i.blocks _ _ refl c.loop-i.invariant
