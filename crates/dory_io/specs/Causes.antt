-- Counts of faults, which never fall: a failure is answered only where a count rose.
use Rattle.std.specs.Prelude.{ℕ, ◌≡◌, ◌+◌, ◌-◌, ◌^◌, ◌≤◌, ◌==◌, min, Bool, List, Result, Ok, Err, if◌then◌else◌}
use Rattle.std.specs.List.{list_any}
use Rattle.dory_io.specs.declared.fails.Fails.{Fails}

-- one more, or the last u64
abbrev pub one_more : ℕ → ℕ
one_more n = min (n + 1) (2 ^ 64 - 1)

-- the count rose, or stands at the last u64
abbrev pub Rose : ℕ → ℕ → Type 0
Rose before now = min (before + 1) (2 ^ 64 - 1) ≤ now

-- the count never falls, and it rose where the call failed
pub record HasCause (before now : ℕ) (failed : Type 0) : Type 0 where
  pub later : before ≤ now
  pub rose : failed → Rose before now

-- the count of bytes given rises by those that were read, up to the last u64, and stays where the read failed
abbrev pub Gave : {E : Type 0} → ℕ → ℕ → Result ℕ E → Type 0
Gave before now (Ok n) = now ≡ min (before + n) (2 ^ 64 - 1)
Gave before now (Err e) = now ≡ before

-- the call of this number is on the list of those that are to fail
abbrev pub is_listed : List ℕ → ℕ → Bool
is_listed listed call = list_any (λ n. n == call) listed

-- the next call is on the list
abbrev pub is_next_listed : Fails → Bool
is_next_listed f = is_listed f.listed.items (one_more f.calls)

-- the counts after one more call, of which no fault comes but the listed one
abbrev pub after_call : Fails → Fails
after_call f = record f { calls = one_more f.calls; faults = if is_next_listed f then one_more f.faults else f.faults }
