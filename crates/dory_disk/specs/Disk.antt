-- What the calls of a disk do to its bytes, and what a crash may leave of them.
use Rattle.std.specs.Prelude.{ℕ, ◌≡◌, ⊤, ◌⊎◌, ◌≤◌, ◌+◌, List, ◌++◌, length, take, drop, Option, Some, None, Result, Ok, Err, option_map}

-- new bytes at a place, over what is there and past the end
abbrev pub overwritten : ℕ → List ℕ → List ℕ → List ℕ
overwritten at piece old = take at old ++ (piece ++ drop (at + length piece) old)

-- after a write of n bytes of which nothing is known: any bytes in its range and past the old end, the same elsewhere
pub record Torn (at n : ℕ) (old new : List ℕ) : Type 0 where
  pub before : take at new ≡ take at old
  pub after : (more : List ℕ) × (drop (at + n) new ≡ drop (at + n) old ++ more)
  pub no_shorter : length old ≤ length new

-- a read that ends here, or a write that begins here, keeps to the bytes, where they are told
abbrev pub IsWithin : Option (List ℕ) → ℕ → Type 0
IsWithin None place = ⊤
IsWithin (Some bytes) place = place ≤ length bytes

-- so many bytes from a place, where they are told
abbrev pub ReadsAt : Option (List ℕ) → ℕ → List ℕ → Type 0
ReadsAt None place into = ⊤
ReadsAt (Some bytes) place into = into ≡ take (length into) (drop place bytes)

-- how many bytes there are, where they are told
abbrev pub Counts : Option (List ℕ) → ℕ → Type 0
Counts None n = ⊤
Counts (Some bytes) n = n ≡ length bytes

-- a write that failed left any bytes in its range and past the old end
abbrev pub Spoils : ℕ → ℕ → Option (List ℕ) → Option (List ℕ) → Type 0
Spoils at n None now = now ≡ None
Spoils at n (Some old) now = (new : List ℕ) × (now ≡ Some new) × Torn at n old new

-- what a write does to the bytes that are told
abbrev pub WritesAt : {E : Type 0} → ℕ → List ℕ → Option (List ℕ) → Option (List ℕ) → Result (Unit {0}) E → Type 0
WritesAt at piece before now (Ok u) = now ≡ option_map (overwritten at piece) before
WritesAt at piece before now (Err e) = Spoils at (length piece) before now

-- each image that a crash may leave now is one that it might have left before, after a write of n bytes there
abbrev pub Follows : ℕ → ℕ → (List ℕ → Type 0) → (List ℕ → Type 0) → Type 0
Follows at n old new = (c : List ℕ) → new c → (d : List ℕ) × old d × Torn at n d c

-- what a crash may leave now it might have left before
abbrev pub Within : (List ℕ → Type 0) → (List ℕ → Type 0) → Type 0
Within old new = (c : List ℕ) → new c → old c

-- a crash leaves what is told, and nothing else
abbrev pub IsOnDisk : Option (List ℕ) → (List ℕ → Type 0) → Type 0
IsOnDisk told images = (c : List ℕ) → images c → told ≡ Some c

-- time goes on: a crash since t might have left what it might have left before, or what it may leave now
pub record Elapses (before now : ℕ) (past since : ℕ → List ℕ → Type 0) (images : List ℕ → Type 0) : Type 0 where
  pub later : before ≤ now
  pub nothing_else : (t : ℕ) (c : List ℕ) → t ≤ before → since t c → past t c ⊎ images c
  pub keeps : (t : ℕ) (c : List ℕ) → t ≤ before → past t c → since t c
