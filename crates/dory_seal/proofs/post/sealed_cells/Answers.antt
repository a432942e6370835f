use Rattle.std.proofs.Common.{arith}
use Rattle.dory_seal.proofs.Masks.{masked_by_all}
use Rattle.dory_seal.proofs.post.sealed_cells.Goals as goal

pub returns : goal.returns
returns c =
    let value = c.len-block-end.ensures.value in
    masked_by_all c.args.keys.now.keys c.args.doc c.args.id c.args.row.now c.loop-block.cells c.loop-block.invariant.len
    (λ j low. c.loop-block.invariant.each j (omega arith))
