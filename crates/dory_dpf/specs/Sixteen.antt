-- Sixteen bytes as a string of bits: XOR, and one bit.
use Rattle.std.specs.Prelude.{ℕ, ◌/◌, ◌%◌, ◌^◌, ◌==◌, Bool, List, [], ◌∷◌, bit_xor, replicate, slice_index, slice_set}
use Rattle.std.specs.Int.{bit_at}

-- the XOR byte by byte; where one list ends, the bytes of the other follow
abbrev pub xor_bytes : List ℕ → List ℕ → List ℕ
xor_bytes [] ys = ys
xor_bytes (x ∷ xs) [] = x ∷ xs
xor_bytes (x ∷ xs) (y ∷ ys) = bit_xor x y ∷ xor_bytes xs ys

-- bit r is bit r mod 8, the lowest first, of byte r div 8
abbrev pub byte_bit : List ℕ → ℕ → Bool
byte_bit bytes r = bit_at (slice_index bytes (r / 8)) (r % 8) == 1

-- the sixteen bytes whose one set bit is bit r
abbrev pub one_bit : ℕ → List ℕ
one_bit r = slice_set (replicate 16 0) (r / 8) (2 ^ (r % 8))
