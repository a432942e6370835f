-- What a running HMAC has been given.
use Rattle.std.specs.Prelude.{ℕ, List, ◌++◌}
use Rattle.sha2.specs.Hashers.{Holds256}
use Rattle.dory_hmac.specs.Hmac.{xor_pad}
use Rattle.dory_hmac.specs.declared.running.Mac.{Mac}

-- The mac was begun under the key of this block, and the message is all that it was given since, in the
-- order in which it came: what the two hashes of HMAC have taken so far (RFC 2104, section 2).
pub record Holds (mac : Mac) (block message : List ℕ) : Type 0 where
  -- The inner hash has taken the block XOR the inner pad, and the message.
  pub inner : Holds256 mac.inner (xor_pad 0x36 block ++ message)
  -- The outer hash has taken the block XOR the outer pad.
  pub outer : Holds256 mac.outer (xor_pad 0x5c block)
