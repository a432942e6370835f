-- The value of digits, one after the other.
use Rattle.std.proofs.Common.{◌≡◌, ◌∙◌, ◌≤◌, ◌<◌, ◌+◌, ◌-◌, ◌*◌, ◌^◌, ℕ, Bool, true, false, List, Some, None, length, take, get_or, refl, sym, ap, arith, take_all, true≢false}
use Rattle.std.specs.Int.{IsInRange}
use Rattle.std.specs.List.{list_all}
use Rattle.std.specs.Char.{is_ascii_digit}
use Rattle.std.specs.Str.Parse.{digits_value}
use Rattle.std.proofs.lemmas.Bool.{leb-true, and_parts, lt-ltb, le-ltb}
use Rattle.std.proofs.lemmas.Int.Digits.{digits_value_more}
use Rattle.std.proofs.lemmas.List.Folds.{list_all_at}
use Rattle.std.proofs.lemmas.Str.{digit_value_digit}
use Rattle.std.proofs.lemmas.Str.Parse.{digits_value-take-le}
use Rattle.dory_io.specs.Numbers.{value_of}

-- each of digits is one
pub each_digit : (digits : List ℕ) (i : ℕ) → list_all is_ascii_digit digits ≡ true → i < length digits → IsInRange 48 57 (get_or digits i 0)
each_digit digits i all within = by (is_ascii_digit (get_or digits i 0)) refl
  where
    by : (b : Bool) → is_ascii_digit (get_or digits i 0) ≡ b → IsInRange 48 57 (get_or digits i 0)
    by true e = let parts = and_parts _ _ e in (leb-true _ _ parts.0, leb-true _ _ parts.1)
    by false e = absurd (true≢false (sym all ∙ list_all_at is_ascii_digit digits i 0 within e))

-- the value of one digit more
pub one_digit_more : (digits : List ℕ) (i n : ℕ) → list_all is_ascii_digit digits ≡ true → i < length digits → n ≡ digits_value 10 (take i digits)
    → n * 10 + (get_or digits i 0 - 48) ≡ digits_value 10 (take (i + 1) digits)
one_digit_more digits i n all within is =
    omega (arith, is, digits_value_more 10 digits i within, digit_value_digit (get_or digits i 0) (each_digit digits i all within))

-- digits of which the first are too large are too large
pub too_large : (digits : List ℕ) (i : ℕ) → 2 ^ 64 ≤ digits_value 10 (take i digits) → None ≡ value_of digits
too_large digits i large =
    let over : 2 ^ 64 ≤ digits_value 10 digits = omega (arith, large, digits_value-take-le 10 digits i (omega arith)) in
    rw (le-ltb (digits_value 10 digits) (2 ^ 64) over) refl

-- the value of all digits
pub whole_value : (digits : List ℕ) (i n : ℕ) → length digits ≤ i → n < 2 ^ 64 → n ≡ digits_value 10 (take i digits) → Some n ≡ value_of digits
whole_value digits i n all small is =
    let e : n ≡ digits_value 10 digits = is ∙ ap (digits_value 10) (take_all i digits all) in
    let fits : digits_value 10 digits < 2 ^ 64 = omega (arith, e, small) in
    rw (lt-ltb (digits_value 10 digits) (2 ^ 64) fits) (ap Some e)
