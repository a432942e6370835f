use Rattle.std.proofs.Common.{◌≡◌, ◌<◌, ◌^◌, take}
use Rattle.std.specs.Str.Parse.{digits_value}
use Rattle.dory_io.proofs.numbers.value.Given as goal

-- the value of the digits before this one
abbrev pub invariant-loop-digit : goal.invariant-loop-digit
invariant-loop-digit l = record {
  small : l.n < 2 ^ 64;
  value : l.n ≡ digits_value 10 (take l.digit-index l.digits);
}
