-- Facts of every tag, for the proofs of callers: it is a list of 32 bytes.
use Rattle.std.proofs.Common.{◌≡◌, ◌<◌, ◌≤◌, ◌^◌, zero, suc, length, get_or, List, ℕ, mod-lt, pow_pos, arith, inl, inr, ◌⊎◌, w32}
use Rattle.std.specs.Int.{to_be_bytes}
use Rattle.std.specs.List.{All}
use Rattle.std.proofs.lemmas.Bool.{cases_lt}
use Rattle.std.proofs.lemmas.List.{get_or_past}
use Rattle.std.proofs.lemmas.List.Elements.{All-append, All-get_or, All-nil}
use Rattle.std.specs.Prelude.{slice_index, slice_index_or}
use Rattle.sha2.proofs.Facts256.{length-sha256}
use Rattle.sha2.specs.Sha256.{digest_bytes, sha256}
use Rattle.dory_hmac.proofs.LaneLemmas.{below_four}
use Rattle.dory_hmac.specs.Hmac.{hmac, hmac_of_block}

-- a tag under a key's block has 32 bytes
pub length-hmac_of_block : (block message : List ℕ) → length (hmac_of_block block message) ≡ 32
unfolding hmac_of_block
length-hmac_of_block block message = length-sha256 _

-- a tag has 32 bytes
pub length-hmac : (key message : List ℕ) → length (hmac key message) ≡ 32
length-hmac key message = length-hmac_of_block _ message

word-bytes : (n : ℕ) → All (λ b. b < 2 ^ 8) (to_be_bytes w32 n)
word-bytes n k d near =
    below_four (λ i. slice_index_or (to_be_bytes w32 n) i d < 2 ^ 8)
    (mod-lt _ (pow_pos 8)) (mod-lt _ (pow_pos 8)) (mod-lt _ (pow_pos 8)) (mod-lt _ (pow_pos 8)) k near

digest-bytes : (h : List ℕ) (n : ℕ) → All (λ b. b < 2 ^ 8) (digest_bytes h n)
unfolding digest_bytes
digest-bytes h zero = All-nil (λ b. b < 2 ^ 8)
digest-bytes h (suc n) = All-append (λ b. b < 2 ^ 8) (digest_bytes h n) (to_be_bytes w32 (slice_index h n)) (digest-bytes h n) (word-bytes (slice_index h n))

-- each element of a tag under a key's block is a byte
pub hmac_of_block-bytes : (block message : List ℕ) → All (λ b. b < 2 ^ 8) (hmac_of_block block message)
unfolding hmac_of_block sha256
hmac_of_block-bytes block message = digest-bytes _ 8

-- each element of a tag is a byte
pub hmac-bytes : (key message : List ℕ) → All (λ b. b < 2 ^ 8) (hmac key message)
hmac-bytes key message = hmac_of_block-bytes _ message

-- the same at each place, also past the end, as it is known of an array of bytes
pub hmac_of_block-byte : (block message : List ℕ) (i : ℕ) → get_or (hmac_of_block block message) i 0 < 2 ^ 8
hmac_of_block-byte block message i = by (cases_lt i (length (hmac_of_block block message)))
  where
    by : (i < length (hmac_of_block block message)) ⊎ (length (hmac_of_block block message) ≤ i) → get_or (hmac_of_block block message) i 0 < 2 ^ 8
    by (inl near) = All-get_or (λ b. b < 2 ^ 8) (hmac_of_block block message) i 0 near (hmac_of_block-bytes block message)
    by (inr past) = omega (arith, get_or_past (hmac_of_block block message) i 0 past)
