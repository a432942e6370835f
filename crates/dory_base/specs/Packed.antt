-- A list of bits, kept in words of 64.
use Rattle.std.specs.Prelude.{◌≡◌, ℕ, ◌+◌, ◌/◌, ◌%◌, ◌≤◌, ◌==◌, Bool, List, length, map, slice_index}
use Rattle.std.specs.List.{range_with_len}
use Rattle.std.specs.Int.{bit_at}

-- bit j of the words, 0 or 1
abbrev pub word_bit : List ℕ → ℕ → ℕ
word_bit words j = bit_at (slice_index words (j / 64)) (j % 64)

-- the first `len` bits
abbrev pub bits_of : ℕ → List ℕ → List Bool
bits_of len words = map (λ j. word_bit words j == 1) (range_with_len 0 len)

-- as many words as the bits take, and zero bits after the last
pub record IsPacked (len : ℕ) (words : List ℕ) : Type 0 where
  pub few : len ≤ 4096
  pub exact : length words ≡ (len + 63) / 64
  pub clear : (j : ℕ) → len ≤ j → word_bit words j ≡ 0
