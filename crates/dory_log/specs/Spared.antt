-- A folder's log, with its room.
use Rattle.std.specs.Prelude.{ℕ, ◌≡◌, ◌≤◌, ◌⊎◌, Ok}
use Rattle.dory_base.specs.declared.ids.UpdateId.{UpdateId}
use Rattle.dory_base.specs.declared.plan.Plan.TheVariants.{Fresh}
use Rattle.dory_base.specs.Log.{Log, look_order, look_follow}

-- the log, and how many commits there is room for
pub record Spared : Type 0 where
  pub log : Log
  pub spare : ℕ

-- a look gives this number to this id
abbrev pub MayCommit : Log → ℕ → UpdateId → Type 0
MayCommit log number id = (look_order log id ≡ Ok (Fresh number)) ⊎ ((look_follow log number id ≡ Ok (Fresh number)) × (number ≤ 1048576))
