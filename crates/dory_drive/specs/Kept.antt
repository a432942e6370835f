-- What is kept after a save.
use Rattle.std.specs.Prelude.{ℕ, ◌≡◌, ◌⊎◌, ⊤, Bool, true, false, List, Option, Some, None}
use Rattle.dory_io.specs.Bytes.{Stays}
use Rattle.dory_state.specs.declared.kept.KeptState.{KeptState}
use Rattle.dory_state.specs.Spelling.{spelling_of_state}

-- where it is told, this state is kept now
abbrev pub KeepsNow : Option (Option (List ℕ)) → Option (Option (List ℕ)) → KeptState → Type 0
KeepsNow None now state = ⊤
KeepsNow (Some before) None state = ⊥
KeepsNow (Some before) (Some now) state = now ≡ Some (spelling_of_state state)

-- what is kept is as it was, or this state
abbrev pub OldOrNew : Option (Option (List ℕ)) → Option (Option (List ℕ)) → KeptState → Type 0
OldOrNew before now state = Stays before now ⊎ KeepsNow before now state

-- a state is kept if so, and otherwise what is kept stays
abbrev pub KeepsIf : Bool → Option (Option (List ℕ)) → Option (Option (List ℕ)) → KeptState → Type 0
KeepsIf true before now state = KeepsNow before now state
KeepsIf false before now state = Stays before now
