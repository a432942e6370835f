-- The ChaCha20 words of a key and a stream, by places, over the block function of RFC 8439, and the two sides of a seed.
use Rattle.std.specs.Prelude.{ℕ, ◌+◌, ◌/◌, ◌%◌, ◌^◌, ◌==◌, Bool, List, [], ◌∷◌, ◌++◌, replicate, slice_index}
use Rattle.std.specs.Int.{w32, to_le_bytes}
use Rattle.rand_core.specs.Steps.{u32_at}
use Rattle.rand_chacha.specs.Block.{add32, double_rounds}
use Rattle.dory_dpf.specs.declared.generator.Doubled.{Doubled}

-- the state of a block (RFC 8439, 2.3): the four constants, the eight words of the key, the number of the block, zero,
-- and the two halves of the stream, the low one first
abbrev pub block_state : List ℕ → ℕ → ℕ → List ℕ
block_state key stream block =
    0x61707865 ∷ 0x3320646e ∷ 0x79622d32 ∷ 0x6b206574
    ∷ u32_at key 0 ∷ u32_at key 1 ∷ u32_at key 2 ∷ u32_at key 3
    ∷ u32_at key 4 ∷ u32_at key 5 ∷ u32_at key 6 ∷ u32_at key 7
    ∷ block ∷ 0 ∷ stream % 2 ^ 32 ∷ stream / 2 ^ 32 ∷ []

-- word k of a block (RFC 8439, 2.3): the state after twenty rounds, plus the state before them
unfoldable pub block_word : List ℕ → ℕ → ℕ → ℕ → ℕ
block_word key stream block k =
    let x = block_state key stream block in
    add32 (slice_index (double_rounds 10 x) k) (slice_index x k)

-- the word at a place of a stream
abbrev pub stream_word : List ℕ → ℕ → ℕ → ℕ
stream_word key stream place = block_word key stream (place / 16) (place % 16)

-- word k of block 0 of stream 0, where the key is a seed with sixteen zero bytes after it
abbrev pub seed_word : List ℕ → ℕ → ℕ
seed_word seed k = block_word (seed ++ replicate 16 0) 0 0 k

-- the bytes of four words from word k on, each with its lowest byte first
abbrev pub seed_bytes : List ℕ → ℕ → List ℕ
seed_bytes seed k =
    to_le_bytes w32 (seed_word seed k) ++ to_le_bytes w32 (seed_word seed (k + 1))
    ++ to_le_bytes w32 (seed_word seed (k + 2)) ++ to_le_bytes w32 (seed_word seed (k + 3))

-- the lowest bit of word k
abbrev pub seed_bit : List ℕ → ℕ → Bool
seed_bit seed k = seed_word seed k % 2 == 1

-- the two seeds and the two bits that a seed gives: words 0 to 3 and word 8, words 4 to 7 and word 9
unfoldable pub doubled_of : List ℕ → Doubled
doubled_of seed = record {
  left = seed_bytes seed 0;
  left_bit = seed_bit seed 8;
  right = seed_bytes seed 4;
  right_bit = seed_bit seed 9;
}
