-- What a port gives, and what a binder tells.
use Rattle.std.specs.Prelude.{ℕ, ◌≡◌, ◌⊎◌, ⊤, Option, Some, None, Result, Ok, Err}
use Rattle.dory_io.specs.Bytes.{Tells}
use Rattle.dory_io.specs.Causes.{one_more}
use Rattle.dory_io.specs.declared.address.Address.{Address}

-- the count of connections given is one more where one was given, and stays where none was
abbrev pub GaveOne : {A E : Type 0} → ℕ → ℕ → Result A E → Type 0
GaveOne before now (Ok connection) = now ≡ one_more before
GaveOne before now (Err e) = now ≡ before

-- this address may be the bound one where that was asked for: it is the same, but that port 0 leaves the port open
abbrev pub IsBoundFor : Address → Address → Type 0
IsBoundFor asked bound = (bound.ip ≡ asked.ip) × ((asked.port ≡ 0) ⊎ (bound.port ≡ asked.port))

-- what was told before is told from then on
abbrev pub StillTold : Option Address → Option Address → Type 0
StillTold None now = ⊤
StillTold (Some before) None = ⊥
StillTold (Some before) (Some now) = ⊤

-- the bound address is told from then on, where any is told: by a binder that told one before, for certain. A failed bind
-- changes nothing of what is told
abbrev pub Binds : {E : Type 0} → Address → Option Address → Option Address → Result Address E → Type 0
Binds asked before now (Ok address) = IsBoundFor asked address × Tells now address × StillTold before now
Binds asked before now (Err e) = now ≡ before
