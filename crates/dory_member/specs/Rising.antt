-- Numbers in rising order, each once.
use Rattle.std.specs.Prelude.{ℕ, nat_lt, List, [], ◌∷◌, map, if◌then◌else◌}
use Rattle.dory_base.specs.declared.ids.DocId.{DocId}

-- a number, put in its place among rising ones, unless it is there
abbrev pub put : ℕ → List ℕ → List ℕ
put n [] = n ∷ []
put n (x ∷ xs) = if nat_lt n x then n ∷ x ∷ xs else (if nat_lt x n then x ∷ put n xs else x ∷ xs)

-- the numbers of a list, rising
abbrev pub rising_of : List ℕ → List ℕ
rising_of [] = []
rising_of (n ∷ ns) = put n (rising_of ns)

-- the documents of these numbers, rising
abbrev pub docs_of : List ℕ → List DocId
docs_of ns = map (λ n. record { 0 = n }) (rising_of ns)
