-- What can be kept of a key, so that its blocks are hashed once for many messages.
use Rattle.std.specs.Prelude.{ℕ, List}
use Rattle.sha2.specs.Sha256.{compress, initial_hash_256}
use Rattle.dory_hmac.specs.Hmac.{xor_pad}

-- The hash value after the key's block under a pad (RFC 2104, section 4): where the compression stands
-- once it has taken the block (FIPS 180-4, section 6.2).
unfoldable pub midstate : ℕ → List ℕ → List ℕ
midstate pad block = compress initial_hash_256 (xor_pad pad block)
