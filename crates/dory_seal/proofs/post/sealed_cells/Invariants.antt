use Rattle.std.proofs.Common.{◌≡◌, ℕ, ◌<◌, ◌*◌, false, length, get_or}
use Rattle.dory_base.specs.Xor.{xor}
use Rattle.dory_seal.specs.Seal.{mask_bit_of}
use Rattle.dory_seal.proofs.post.sealed_cells.Given as goal

abbrev pub invariant-loop-block : goal.invariant-loop-block
invariant-loop-block l = record {
  len : length l.cells ≡ length l.row;
  each : (j : ℕ) → j < 256 * l.block → get_or l.cells j false ≡ xor (get_or l.row j false) (mask_bit_of l.keys.keys l.doc l.id j);
}
