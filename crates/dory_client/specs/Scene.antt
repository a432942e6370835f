-- What a call meets at one moment.
use Rattle.std.specs.Prelude.{ℕ, ◌≡◌, List, Option}
use Rattle.dory_drive.specs.Scene.{Scene}

-- the bytes left of an input, how many it has given, and how often it has failed
pub record Input : Type 0 where
  pub left : Option (List ℕ)
  pub given : ℕ
  pub faults : ℕ

-- an input that tells this
abbrev pub input_at : Option (List ℕ) → ℕ → ℕ → Input
input_at left given failed = record { left = left; given = given; faults = failed }

-- the input wasn't read
abbrev pub IsUnread : Input → Input → Type 0
IsUnread input input' = input' ≡ input

-- the input, and all that stands outside a conversation
pub record Moment : Type 0 where
  pub input : Input
  pub outside : Scene

-- a moment at which both are so
abbrev pub met : Input → Scene → Moment
met input outside = record { input = input; outside = outside }
