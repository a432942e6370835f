use Rattle.std.proofs.Common.{ℕ, List, ◌∙◌, ap, arith}
use Rattle.sha2.specs.Sha256.{compress, initial_hash_256}
use Rattle.dory_hmac.specs.Midstate.{midstate}
use Rattle.dory_hmac.proofs.midstates.Midstates.new.Goals as goal

pub invariant_of-result : goal.invariant_of-result
unfolding midstate
invariant_of-result c = (
  c.hash_value.ensures
      ∙ c.compress4-states.ensures 0 _ (omega arith) (c.loaded.ensures 0 (omega arith))
      ∙ ap (λ (h : List ℕ). compress h c.xor_pad-inner.result) (c.spread.ensures 0 (omega arith))
      ∙ ap (compress initial_hash_256) c.xor_pad-inner.ensures,
  c.hash_value-2.ensures
      ∙ c.compress4-states.ensures 1 _ (omega arith) (c.loaded.ensures 1 (omega arith))
      ∙ ap (λ (h : List ℕ). compress h c.xor_pad-outer.result) (c.spread.ensures 1 (omega arith))
      ∙ ap (compress initial_hash_256) c.xor_pad-outer.ensures,
)
