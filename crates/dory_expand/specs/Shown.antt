-- Words as lists of bits, the lowest bit of each word first.
use Rattle.std.specs.Prelude.{ℕ, ◌+◌, ◌*◌, ◌==◌, Bool, cond, List, [], ◌∷◌, map, flat_map}
use Rattle.std.specs.List.{range_with_len}
use Rattle.std.specs.Int.{bit_at}

-- the bits of a word of 64
unfoldable pub bits_of_word : ℕ → List Bool
bits_of_word word = map (λ k. bit_at word k == 1) (range_with_len 0 64)

-- the bits of words, one word after another
abbrev pub all_bits : List ℕ → List Bool
all_bits words = flat_map bits_of_word words

-- the number whose bits these are
unfoldable pub number_of_bits : List Bool → ℕ
number_of_bits [] = 0
number_of_bits (b ∷ bs) = cond b 1 0 + 2 * number_of_bits bs
