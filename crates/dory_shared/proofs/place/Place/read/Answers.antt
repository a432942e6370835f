use Rattle.std.proofs.Common.{◌≤◌, ℕ, sym, subst}
use Rattle.dory_shared.proofs.Making.{few_updates}
use Rattle.dory_shared.proofs.place.Place.read.Goals as goal

pub returns-in-Latest-clause-range : goal.returns-in-Latest-clause-range
returns-in-Latest-clause-range g c = subst (λ (n : ℕ). n ≤ 1048576) (sym c.length.ensures.value) (few_updates c.length.new.self c.length.ensures.lawful)
