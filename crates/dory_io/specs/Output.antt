-- Writing a text in parts.
use Rattle.std.specs.Prelude.{ℕ, ◌≤◌, ◌<◌, List, Option, length, take}
use Rattle.std.specs.Io.KnownBytes.{Appends}

-- some first part of the bytes is written
abbrev pub AppendsPart : Option (List ℕ) → Option (List ℕ) → List ℕ → Type 0
AppendsPart old new bytes = (n : ℕ) × (n ≤ length bytes) × Appends old new (take n bytes)

-- a first part of the bytes that isn't all of them is written
abbrev pub AppendsLess : Option (List ℕ) → Option (List ℕ) → List ℕ → Type 0
AppendsLess old new bytes = (n : ℕ) × (n < length bytes) × Appends old new (take n bytes)
