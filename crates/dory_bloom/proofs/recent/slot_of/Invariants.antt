use Rattle.std.proofs.Common.{◌≡◌, take, fold}
use Rattle.dory_bloom.specs.Recent.{fnv_round}
use Rattle.dory_bloom.proofs.recent.slot_of.Given as goal

abbrev pub invariant-loop-byte : goal.invariant-loop-byte
invariant-loop-byte l = l.hash ≡ fold fnv_round 0xcbf29ce484222325 (take l.byte-index l.word)
