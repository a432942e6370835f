-- A disk that tells nothing, as a file can't say what it holds: no bytes are told, so no law is owed of them.
use Rattle.std.specs.Prelude.{ℕ, ◌≡◌, ⊤, List, Option, Some, None}
use Rattle.std.proofs.Common.{sym, subst}

-- bytes are told
abbrev IsThere : Option (List ℕ) → Type 0
IsThere None = ⊥
IsThere (Some bytes) = ⊤

-- where nothing is told no bytes are
pub nothing_told : (c : List ℕ) → None ≡ Some c → ⊥
nothing_told c told = subst IsThere (sym told) tt
