-- The XOR of two bits.
use Rattle.std.specs.Prelude.{Bool, true, false, not}

-- one of the two, and not both
abbrev pub xor : Bool → Bool → Bool
xor true b = not b
xor false b = b
