-- Numbers as they are written.
use Rattle.std.specs.Prelude.{ℕ, ◌==◌, ◌^◌, ◌&&◌, ◌||◌, Bool, not, List, length, Option, Some, None, if◌then◌else◌, nat_lt, nat_le, slice_index}
use Rattle.std.specs.List.{list_all}
use Rattle.std.specs.Char.{is_ascii_digit}
use Rattle.std.specs.Str.Parse.{digits_value}

-- ASCII digits, the first of them 0 (48) only where it is alone
abbrev pub is_numeral : List ℕ → Bool
is_numeral text =
    nat_lt 0 (length text)
    && (list_all is_ascii_digit text && (length text == 1 || not (slice_index text 0 == 48)))

-- the value of digits, where it is below 2^64
abbrev pub value_of : List ℕ → Option ℕ
value_of digits = if nat_lt (digits_value 10 digits) (2 ^ 64) then Some (digits_value 10 digits) else None

-- the number, where it is from `least` to `most`
abbrev pub within : ℕ → ℕ → ℕ → Option ℕ
within least most n = if nat_le least n && nat_le n most then Some n else None

-- the number that the text writes, from `least` to `most`
abbrev pub number_of : ℕ → ℕ → List ℕ → Option ℕ
number_of least most text = if is_numeral text then within least most (digits_value 10 text) else None
