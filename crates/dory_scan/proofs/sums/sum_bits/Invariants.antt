use Rattle.std.proofs.Common.{◌≡◌, take}
use Rattle.dory_scan.proofs.WordLaws.{words_at}
use Rattle.dory_scan.proofs.sums.sum_bits.Given as goal

abbrev pub invariant-loop-block : goal.invariant-loop-block
invariant-loop-block l = l.words.items ≡ words_at (take l.block-index l.blocks) l.selector
