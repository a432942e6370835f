use Rattle.std.proofs.Common.{◌≡◌, ℕ, ◌<◌, ◌≤◌, ◌+◌, ◌%◌, false, length, get_or}
use Rattle.dory_base.specs.Xor.{xor}
use Rattle.dory_seal.specs.Seal.{block_bit}
use Rattle.dory_seal.proofs.post.seal_block.Given as goal

abbrev pub invariant-loop-i : goal.invariant-loop-i
invariant-loop-i l = record {
  len : length l.cells ≡ length l.row;
  before : (j : ℕ) → j < l.from → get_or l.cells j false ≡ get_or l.fn.cells j false;
  block : (j : ℕ) → l.from ≤ j → j < l.from + l.i → get_or l.cells j false ≡ xor (get_or l.row j false) (block_bit l.mask (j % 256));
}
