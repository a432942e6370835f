use Rattle.std.proofs.Common.{ℕ, List, Result, Ok, Err, Vec, inl, refl}
use Rattle.std.specs.declared.alloc.Global.{Global}
use Rattle.dory_wire.specs.declared.fault.WireFault.{WireFault}
use Rattle.dory_wire.specs.declared.fault.WireFault.TheVariants.{Kind, Body, Trailing, NoMemory}
use Rattle.dory_domain.specs.Held.{Held}
use Rattle.dory_domain.specs.Answered.{IsAnswered, Responds}
use Rattle.dory_session.proofs.tests.LockedAnswers.answer.Goals as goal

abbrev SomeFolders : Unit {0} → List ℕ → List ℕ → Unit {0} → Type 0
SomeFolders u message frame v = (before : List Held) × (now : List Held) × IsAnswered before message frame now

-- what the core makes of a message, of which no more is seen
unseen : (before now : List Held) (message : List ℕ) (result : Result (Vec ℕ Global) WireFault) → Responds IsAnswered before message result now → Responds SomeFolders tt message result tt
unseen before now message (Ok frame) by = (before, now, by)
unseen before now message (Err (Kind b)) by = (by.0, refl)
unseen before now message (Err (Body at)) by = (by.0, refl)
unseen before now message (Err (Trailing at)) by = (by.0, refl)
unseen before now message (Err NoMemory) by = inl refl

pub returns : goal.returns
returns g c = unseen _ _ _ _ c.answer.ensures
