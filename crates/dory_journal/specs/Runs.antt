-- What a crash at any moment of several calls of a disk leaves.
use Rattle.std.specs.Prelude.{ℕ, ◌≡◌, ◌⊎◌, ◌≤◌, List, Option}
use Rattle.dory_disk.specs.Disk.{Within}

-- a crash at any moment from the old disk to the new one leaves what has P
pub record LeavesOnly {D : Type 0} (moment : D → ℕ) (left_since : D → ℕ → List ℕ → Type 0) (old new : D) (P : List ℕ → Type 0) : Type 0 where
  pub later : moment old ≤ moment new
  pub each : (c : List ℕ) → left_since new (moment old) c → P c
  -- for a run that began earlier
  pub before : (t : ℕ) (c : List ℕ) → t ≤ moment old → left_since new t c → left_since old t c ⊎ P c

-- the disk is as it was, and a crash leaves what it might have left before
pub record Quiet {D : Type 0} (told : D → Option (List ℕ)) (may_leave : D → List ℕ → Type 0) (moment : D → ℕ) (left_since : D → ℕ → List ℕ → Type 0) (old new : D) : Type 0 where
  pub same : told new ≡ told old
  pub within : Within (may_leave old) (may_leave new)
  pub leaves : LeavesOnly moment left_since old new (may_leave old)
