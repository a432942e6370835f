-- Lists of bytes, and numbers in bytes with the highest byte first.
use Rattle.std.specs.Prelude.{ℕ, ◌<◌, List, slice_index}
use Rattle.std.specs.Int.{w32, w64, to_be_bytes}

-- each element is a byte
abbrev pub IsBytes : List ℕ → Type 0
IsBytes bytes = (i : ℕ) → slice_index bytes i < 256

-- a number in four bytes
abbrev pub four : ℕ → List ℕ
four n = to_be_bytes w32 n

-- a number in eight bytes
abbrev pub eight : ℕ → List ℕ
eight n = to_be_bytes w64 n
