-- The keys of a search, which are drawn from the ChaCha20 words of the member's seed.
use Rattle.std.specs.Prelude.{ℕ, ◌+◌, ◌*◌, List, [], ◌∷◌, ◌++◌}
use Rattle.std.specs.Int.{w32, to_le_bytes}
use Rattle.dory_dpf.specs.Block.{stream_word}
use Rattle.dory_dpf.specs.PointKey.{PointKey, short_key_of}

-- four words of a stream from one place on, each with its lowest byte first
abbrev pub four_words : List ℕ → ℕ → ℕ → List ℕ
four_words seed stream at =
    to_le_bytes w32 (stream_word seed stream at) ++ to_le_bytes w32 (stream_word seed stream (at + 1))
    ++ to_le_bytes w32 (stream_word seed stream (at + 2)) ++ to_le_bytes w32 (stream_word seed stream (at + 3))

-- a party's key for a column at a probe: probe i takes words 8i to 8i+3 as the first seed, and 8i+4 to 8i+7 as the second
unfoldable pub probe_key : ℕ → ℕ → List ℕ → ℕ → ℕ → ℕ → PointKey
probe_key party depth seed stream probe column =
    short_key_of party depth column (four_words seed stream (8 * probe)) (four_words seed stream (8 * probe + 4))

-- a party's keys for these columns, the first of which is that of this probe
abbrev pub keys_from : ℕ → ℕ → List ℕ → ℕ → ℕ → List ℕ → List PointKey
keys_from party depth seed stream probe [] = []
keys_from party depth seed stream probe (column ∷ columns) =
    probe_key party depth seed stream probe column ∷ keys_from party depth seed stream (probe + 1) columns
