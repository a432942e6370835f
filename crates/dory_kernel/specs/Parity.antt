-- How many bits two lists of words have in common, and whether that is odd.
use Rattle.std.specs.Prelude.{ℕ, ◌+◌, ◌%◌, ◌==◌, Bool, List, [], ◌∷◌, bit_and, count_ones}

-- the ones of the AND of two lists, word by word
abbrev pub common_ones : List ℕ → List ℕ → ℕ
common_ones [] ys = 0
common_ones (x ∷ xs) [] = 0
common_ones (x ∷ xs) (y ∷ ys) = count_ones (bit_and x y) + common_ones xs ys

-- whether there is an odd number of them
abbrev pub is_odd_common : List ℕ → List ℕ → Bool
is_odd_common xs ys = common_ones xs ys % 2 == 1
