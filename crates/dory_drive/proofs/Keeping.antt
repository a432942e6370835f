-- What is kept, from one moment to the next.
use Rattle.std.proofs.Common.{◌≡◌, ℕ, Bool, true, false, List, Option, None, Some, refl, ◌∙◌}
use Rattle.dory_io.specs.Bytes.{Stays}
use Rattle.dory_state.specs.declared.kept.KeptState.{KeptState}
use Rattle.dory_drive.specs.Kept.{KeepsIf, KeepsNow}

abbrev pub Told : Type 0
Told = Option (Option (List ℕ))

pub stays_same : {A : Type 0} (a : Option A) → Stays a a
stays_same None = tt
stays_same (Some a) = refl

pub stays_twice : {A : Type 0} (a b c : Option A) → Stays a b → Stays b c → Stays a c
stays_twice None b c p q = tt
stays_twice (Some a) None c p q = absurd p
stays_twice (Some a) (Some b) None p q = absurd q
stays_twice (Some a) (Some b) (Some c) p q = q ∙ p

pub now_stays : (a b c : Told) (k : KeptState) → KeepsNow a b k → Stays b c → KeepsNow a c k
now_stays None b c k p q = tt
now_stays (Some a) None c k p q = absurd p
now_stays (Some a) (Some b) None k p q = absurd q
now_stays (Some a) (Some b) (Some c) k p q = q ∙ p

pub now_again : (a b c : Told) (k l : KeptState) → KeepsNow a b k → KeepsNow b c l → KeepsNow a c l
now_again None b c k l p q = tt
now_again (Some a) None c k l p q = absurd p
now_again (Some a) (Some b) None k l p q = absurd q
now_again (Some a) (Some b) (Some c) k l p q = q

-- a state that was kept, or wasn't due, stays so
pub if_stays : (u : Bool) (a b c : Told) (k : KeptState) → KeepsIf u a b k → Stays b c → KeepsIf u a c k
if_stays true a b c k p q = now_stays a b c k p q
if_stays false a b c k p q = stays_twice a b c p q

-- what isn't due leaves what is kept
pub stays_if : (u : Bool) (b c : Told) (k : KeptState) → u ≡ false → KeepsIf u b c k → Stays b c
stays_if true b c k e p = absurd (cc)
stays_if false b c k e p = p
