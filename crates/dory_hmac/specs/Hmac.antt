-- HMAC (RFC 2104) with SHA-256 (FIPS 180-4) as its hash function H, on lists of bytes. RFC 2104,
-- section 2, with B = 64, the length of H's block in bytes, and L = 32, the length of its digest:
--
--   HMAC(K, text) = H(K XOR opad, H(K XOR ipad, text))
--
-- where K is padded with zero bytes to length B, ipad is the byte 0x36 repeated B times, opad the byte
-- 0x5C repeated B times, and the comma joins two lists of bytes.
use Rattle.std.specs.Prelude.{ℕ, ◌-◌, List, ◌++◌, length, map, replicate, bit_xor, nat_le, if◌then◌else◌}
use Rattle.sha2.specs.Sha256.{sha256}

-- The key at most B bytes long (RFC 2104, sections 2 and 3): a key of up to 64 bytes stands for itself,
-- and a longer one for its digest.
abbrev pub short_key : List ℕ → List ℕ
short_key key = if nat_le (length key) 64 then key else sha256 key

-- The key as one block (RFC 2104, section 2, step 1): zero bytes are appended to its end until it has
-- 64 bytes.
abbrev pub block_key : List ℕ → List ℕ
block_key key = short_key key ++ replicate (64 - length (short_key key)) 0

-- The block XOR a pad (RFC 2104, section 2, steps 2 and 5): each of its bytes XOR the pad's byte.
abbrev pub xor_pad : ℕ → List ℕ → List ℕ
xor_pad pad block = map (λ b. bit_xor b pad) block

-- HMAC under a key that is given as one block (RFC 2104, section 2, steps 2 to 7): the digest of the
-- outer block and of the digest of the inner block and the message.
unfoldable pub hmac_of_block : List ℕ → List ℕ → List ℕ
hmac_of_block block message =
    sha256 (xor_pad 0x5c block ++ sha256 (xor_pad 0x36 block ++ message))

-- HMAC of a message under a key of any length (RFC 2104, section 2).
abbrev pub hmac : List ℕ → List ℕ → List ℕ
hmac key message = hmac_of_block (block_key key) message
