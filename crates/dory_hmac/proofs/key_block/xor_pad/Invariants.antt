use Rattle.std.proofs.Common.{◌≡◌, ◌++◌, take, drop, map, bit_xor}
use Rattle.dory_hmac.proofs.key_block.xor_pad.Given as goal

abbrev pub invariant-loop-byte : goal.invariant-loop-byte
invariant-loop-byte l = l.byte-items ≡ map (λ b. bit_xor b l.pad) (take l.byte-index l.block) ++ drop l.byte-index l.block
