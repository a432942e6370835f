-- Two lists of shares for each column of a search.
use Rattle.std.specs.Prelude.{ℕ, ◌<◌, Bool, List, [], ◌∷◌}
use Rattle.dory_base.specs.PointPair.{IsPointPair}

-- for each column two lists of shares that differ there and nowhere else
abbrev pub ArePairs : ℕ → List ℕ → List (List Bool) → List (List Bool) → Type 0
ArePairs m [] [] [] = Unit {0}
ArePairs m [] [] (f ∷ follow) = ⊥
ArePairs m [] (l ∷ lead) follow = ⊥
ArePairs m (c ∷ columns) [] follow = ⊥
ArePairs m (c ∷ columns) (l ∷ lead) [] = ⊥
ArePairs m (c ∷ columns) (l ∷ lead) (f ∷ follow) = (c < m) × IsPointPair m c l f × ArePairs m columns lead follow
