-- Bits in bytes: bit j is bit j mod 8 of byte j div 8, the lowest first.
use Rattle.std.specs.Prelude.{ℕ, zero, suc, ◌+◌, ◌*◌, ◌/◌, ◌%◌, ◌==◌, Bool, true, not, ◌&&◌, if◌then◌else◌, List, [], ◌∷◌, ◌++◌, length, take, drop}

-- eight bits as a byte, the first of them the lowest
abbrev pub byte : List Bool → ℕ
byte [] = 0
byte (b ∷ bits) = (if b then 1 else 0) + 2 * byte bits

-- as many bytes, of eight bits each
abbrev pub bytes_of : ℕ → List Bool → List ℕ
bytes_of zero bits = []
bytes_of (suc n) bits = byte (take 8 bits) ∷ bytes_of n (drop 8 bits)

-- how many bytes so many bits take
abbrev pub packed_len : ℕ → ℕ
packed_len n = (n + 7) / 8

-- bits in bytes, with zero bits after the last
abbrev pub packed : List Bool → List ℕ
packed bits = bytes_of (packed_len (length bits)) bits

-- the lowest n bits of a number, the lowest first
abbrev pub bits_from : ℕ → ℕ → List Bool
bits_from zero b = []
bits_from (suc n) b = (b % 2 == 1) ∷ bits_from n (b / 2)

-- the bits of bytes
abbrev pub bits_in : List ℕ → List Bool
bits_in [] = []
bits_in (b ∷ bytes) = bits_from 8 b ++ bits_in bytes

-- none of them is set
abbrev pub is_clear : List Bool → Bool
is_clear [] = true
is_clear (b ∷ bits) = not b && is_clear bits
