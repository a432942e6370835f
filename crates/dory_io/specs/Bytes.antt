-- What a source, a sink and a keeper do to the bytes that they tell.
use Rattle.std.specs.Prelude.{ℕ, ◌≡◌, ◌≤◌, ◌<◌, ◌+◌, ◌-◌, ◌^◌, min, ⊤, ◌⊎◌, List, [], ◌++◌, length, Option, Some, None, Result, Ok, Err, take, drop}
use Rattle.std.specs.Io.KnownBytes.{Consumes}
use Rattle.dory_io.specs.declared.keeper.KeepError.{KeepError}
use Rattle.dory_io.specs.declared.keeper.KeepError.TheVariants as keep

-- a read gives the first bytes that are left: one at least, or none at the end or into no room; a failed one gives none
abbrev pub Reads : {E : Type 0} → Option (List ℕ) → Option (List ℕ) → ℕ → Result ℕ E → List ℕ → Type 0
Reads None now room result into = ⊤
Reads (Some before) None room result into = ⊥
Reads (Some before) (Some now) room (Ok n) into = (take n before ≡ take n into) × (now ≡ drop n before) × ((n ≡ 0) → (room ≡ 0) ⊎ (before ≡ []))
Reads (Some before) (Some now) room (Err e) into = now ≡ before

-- these bytes came of a source: they are the first of what was left, where it tells that, and up to the last u64 the
-- count of bytes given rose by their number
pub record BytesRead (left now : Option (List ℕ)) (given counted : ℕ) (bytes : List ℕ) : Type 0 where
  pub first : Consumes left now bytes
  pub count : min counted (2 ^ 64 - 1) ≡ min (given + length bytes) (2 ^ 64 - 1)

-- nothing is left of an input, where it told what was left
abbrev pub IsOver : Option (List ℕ) → Option (List ℕ) → Type 0
IsOver None now = ⊤
IsOver (Some before) None = ⊥
IsOver (Some before) (Some now) = now ≡ []

-- a write takes some of the piece
abbrev pub Takes : {E : Type 0} → ℕ → Result ℕ E → Type 0
Takes len (Ok n) = (n ≤ len) × (0 < len → 0 < n)
Takes len (Err e) = ⊤

-- what it took comes to the end
abbrev pub Writes : {E : Type 0} → Option (List ℕ) → Option (List ℕ) → List ℕ → Result ℕ E → Type 0
Writes None now piece result = ⊤
Writes (Some before) None piece result = ⊥
Writes (Some before) (Some now) piece (Ok n) = now ≡ before ++ take n piece
Writes (Some before) (Some now) piece (Err e) = now ≡ before

-- a value that is told is this one
abbrev pub Tells : {A : Type 0} → Option A → A → Type 0
Tells None x = ⊤
Tells (Some told) x = told ≡ x

-- where both are told, they are alike
abbrev pub Stays : {A : Type 0} → Option A → Option A → Type 0
Stays None now = ⊤
Stays (Some before) None = ⊥
Stays (Some before) (Some now) = now ≡ before

-- a save keeps the new bytes. After a failure they are the old or the new ones, and after want of memory the old ones
abbrev pub Saves : Option (Option (List ℕ)) → Option (Option (List ℕ)) → List ℕ → Result (Unit {0}) KeepError → Type 0
Saves None now bytes result = ⊤
Saves (Some before) None bytes result = ⊥
Saves (Some before) (Some now) bytes (Ok u) = now ≡ Some bytes
Saves (Some before) (Some now) bytes (Err keep.Failed) = (now ≡ before) ⊎ (now ≡ Some bytes)
Saves (Some before) (Some now) bytes (Err keep.NoMemory) = now ≡ before
