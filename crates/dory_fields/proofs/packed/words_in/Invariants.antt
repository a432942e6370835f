use Rattle.std.proofs.Common.{◌≡◌, ◌+◌, ◌*◌, length, drop}
use Rattle.dory_fields.proofs.Words.{AreWords}
use Rattle.dory_fields.proofs.packed.words_in.Given as goal

abbrev pub invariant-loop-rest : goal.invariant-loop-rest
invariant-loop-rest l = record {
  left : l.rest ≡ drop (8 * length l.words.items) l.packed;
  len : length l.packed ≡ 8 * length l.words.items + length l.rest;
  words : AreWords l.words.items l.packed;
}

abbrev pub decreases-loop-rest : goal.decreases-loop-rest
decreases-loop-rest l = length l.rest
