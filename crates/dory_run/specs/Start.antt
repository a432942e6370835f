-- How a world begins: idle members that have done nothing, and two empty domains.
use Rattle.std.specs.Prelude.{ℕ, zero, suc, ◌+◌, ◌<◌, ◌≤◌, ◌^◌, List, [], ◌∷◌, ◌++◌, replicate, None}
use Rattle.dory_base.specs.Dims.{IsDims}
use Rattle.dory_base.specs.Step.{empty_state}
use Rattle.dory_base.specs.declared.ids.MemberId.{MemberId}
use Rattle.dory_base.specs.declared.ids.Side.TheVariants.{Lead, Follow}
use Rattle.dory_fields.specs.Bytes.{four, eight}
use Rattle.dory_hmac.specs.FolderKeys.{keys_of}
use Rattle.dory_hmac.specs.declared.folder_keys.FolderKeys.{FolderKeys}
use Rattle.dory_state.specs.declared.kept.KeptState.{KeptState}
use Rattle.dory_run.specs.declared.setup.Setup.{Setup}
use Rattle.dory_run.specs.World.{Station, Idle, World}

-- the ranges of a setup
pub record IsSetup (s : Setup) : Type 0 where
  pub folder : s.folder.0 < 2 ^ 32
  pub shape : IsDims s.shape
  pub some_retained : 1 ≤ s.retained
  pub few_retained : s.retained ≤ 256
  pub some_members : 1 ≤ s.members
  pub few_members : s.members ≤ 64
  pub seed : s.seed < 2 ^ 64

-- the master key: 24 zero bytes, and the seed in eight
abbrev pub master_of : Setup → List ℕ
master_of s = replicate 24 0 ++ eight s.seed

-- the folder's keys
abbrev pub keys_in : Setup → FolderKeys
keys_in s = keys_of (master_of s) s.folder.0

-- a member's seed: its number in four bytes, 20 zero bytes, and the seed in eight
abbrev pub seed_of : Setup → MemberId → List ℕ
seed_of s m = four m.0 ++ replicate 20 0 ++ eight s.seed

-- the member of a number
abbrev pub numbered : ℕ → MemberId
numbered n = record { 0 = n }

-- a member that has done nothing: its first serial is 1
abbrev pub fresh : Setup → ℕ → KeptState
fresh s n = record {
  folder = s.folder;
  member = numbered n;
  shape = s.shape;
  master = master_of s;
  next_serial = 1;
  seen = 0;
  used = 0;
  pending = None;
}

-- so many idle members from this number on
abbrev pub members_from : Setup → ℕ → ℕ → List Station
members_from s n zero = []
members_from s n (suc more) = Idle (fresh s n) ∷ members_from s (n + 1) more

-- the world in which nothing has happened
abbrev pub start : Setup → World
start s = record {
  members = members_from s 0 s.members;
  lead = empty_state Lead s.shape s.retained;
  follow = empty_state Follow s.shape s.retained;
  messages = [];
}
