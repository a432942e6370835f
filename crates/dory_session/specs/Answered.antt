-- What messages are answered, one after the other.
use Rattle.std.specs.Prelude.{ℕ, ◌≡◌, List, [], ◌∷◌}
use Rattle.dory_domain.specs.Answered.{Steps}

-- each message is answered by the frame in its place, by a step from what the step before it left
abbrev pub AreAnswered : {V : Type 0} → Steps V → V → List (List ℕ) → List (List ℕ) → V → Type 0
AreAnswered steps before [] [] now = now ≡ before
AreAnswered {V} steps before (message ∷ messages) (frame ∷ frames) now =
    (mid : V) × steps before message frame mid × AreAnswered steps mid messages frames now
AreAnswered steps before [] (frame ∷ frames) now = ⊥
AreAnswered steps before (message ∷ messages) [] now = ⊥
