-- How many chunks an update makes or copies.
use Rattle.std.specs.Prelude.{ℕ, ◌≡◌, ◌+◌, ◌⊎◌, Option, Some, None, Result, Ok, Err}

-- one where an update changes a slot, and none where it changes nothing
abbrev pub chunks_for : Option ℕ → ℕ
chunks_for None = 0
chunks_for (Some n) = 1

-- The count after an update rose by exactly those. Where memory ran out, it may have done so before the chunk was begun.
abbrev pub IsCount : {V E : Type 0} → Result V E → ℕ → ℕ → Option ℕ → Type 0
IsCount (Ok v) before now target = now ≡ before + chunks_for target
IsCount (Err e) before now target = (now ≡ before) ⊎ (now ≡ before + chunks_for target)
