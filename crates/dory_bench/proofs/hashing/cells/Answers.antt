use Rattle.std.proofs.Common.{◌≡◌, refl}
use Rattle.std.proofs.lemmas.List.Elements.{All-replicate, All-set}
use Rattle.dory_seal.specs.Epoch.{epoch_of}
use Rattle.dory_seal.specs.declared.cell.Cell.{Cell}
use Rattle.dory_bench.proofs.hashing.cells.Goals as goal

pub loop-i-init : goal.loop-i-init
loop-i-init c = All-replicate (λ (cell : Cell). epoch_of cell.id ≡ epoch_of c.args.id) 64 _ refl

pub loop-i-preserved : goal.loop-i-preserved
loop-i-preserved c = All-set (λ (cell : Cell). epoch_of cell.id ≡ epoch_of c.args.id) c.loop-i.cells _ _ refl c.loop-i.invariant
