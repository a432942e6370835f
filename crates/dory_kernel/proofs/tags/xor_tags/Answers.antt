use Rattle.std.proofs.Common.{ℕ, ◌+◌, ◌≤◌, length, get_or, arith, ap, ◌∙◌, List}
use Rattle.dory_kernel.proofs.Blocks.{block_done, block_rest, zip2_same}
use Rattle.dory_kernel.proofs.tags.xor_tags.Goals as goal

pub vectors-preserved : goal.vectors-preserved
vectors-preserved c =
    let h : c.vectors.at + 32 ≤ length c.vectors.into = omega arith in
    let i : c.vectors.at + 32 ≤ length c.args.from.now = omega arith in
    record {
      within = omega arith;
      done = λ k near. ap (λ (t : List ℕ). get_or t k 0) c.xor_block.ensures ∙ block_done c.args.into.now c.vectors.into c.args.from.now c.vectors.at 32 k h i c.vectors.invariant.done c.vectors.invariant.rest near;
      rest = λ k far. ap (λ (t : List ℕ). get_or t k 0) c.xor_block.ensures ∙ block_rest c.args.into.now c.vectors.into c.args.from.now c.vectors.at 32 k h i c.vectors.invariant.rest far;
    }

pub returns : goal.returns
returns c = zip2_same c.rest.into c.args.into.now c.args.from.now c.requires (omega arith) (λ k near. c.rest.invariant.done k (omega arith))
