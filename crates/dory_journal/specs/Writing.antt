-- How bytes come behind a gate: the gate is a byte that stays shut until they are on the disk.
use Rattle.std.specs.Prelude.{ℕ, ◌≡◌, ◌⊎◌, ◌+◌, List, ◌∷◌, ◌++◌, length, take, drop, Option, Some}

-- the bytes with an open gate at this place, and this piece behind it
abbrev pub opened : ℕ → List ℕ → List ℕ → List ℕ
opened gate piece bytes = take gate bytes ++ (1 ∷ (piece ++ drop (gate + 1 + length piece) bytes))

-- up to the gate, and the gate itself, all is as before; or up to the gate all is as before, and the whole piece stands behind it
abbrev pub IsLeft : ℕ → List ℕ → List ℕ → List ℕ → Type 0
IsLeft gate piece bytes c =
    (take (gate + 1) c ≡ take (gate + 1) bytes)
    ⊎ ((at : ℕ) × (more : List ℕ) × (c ≡ take gate bytes ++ (at ∷ (piece ++ more))))

-- what is told stays told
abbrev pub IsStillTold : Option (List ℕ) → Option (List ℕ) → Type 0
IsStillTold before now = (b : List ℕ) → before ≡ Some b → (c : List ℕ) × (now ≡ Some c)
