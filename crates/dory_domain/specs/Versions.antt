-- The versions that a folder retains.
use Rattle.std.specs.Prelude.{ℕ, ◌≡◌, ◌+◌, ◌<◌, ◌≤◌, min, nat_lt, if◌then◌else◌, List, ◌∷◌, [], ◌++◌, length, slice_index_or}
use Rattle.std.specs.List.{remove}
use Rattle.dory_base.specs.Dims.{Dims}
use Rattle.dory_base.specs.declared.entry.Entry.{Entry}
use Rattle.dory_base.specs.History.{version_of}
use Rattle.dory_base.specs.TableMeaning.{Kept, StandsFor}
use Rattle.dory_wire.specs.Read.{oldest_of}

-- a table of this shape that stands for a version of the history
pub record IsVersion (shape : Dims) (history : List Entry) (number : ℕ) (t : Kept) : Type 0 where
  pub shape_is : t.shape ≡ shape
  pub stands : StandsFor t (version_of number history)

-- the last versions of a history, oldest first: so many as are retained, or as many as there are
pub record AreVersions (shape : Dims) (retained : ℕ) (history : List Entry) (versions : List Kept) : Type 0 where
  pub count : length versions ≡ min retained (length history + 1)
  pub each : (k : ℕ) (d : Kept) → k < length versions → IsVersion shape history (oldest_of retained (length history) + k) (slice_index_or versions k d)

-- tables of a shape, oldest first, and how many of them are retained
pub record Last : Type 0 where
  pub shape : Dims
  pub retained : ℕ
  pub versions : List Kept

-- they are the last versions of this history
abbrev pub AreLast : List Entry → Last → Type 0
AreLast history last = AreVersions last.shape last.retained history last.versions

-- the version of this number is retained
abbrev pub IsRetained : Last → List Entry → ℕ → Type 0
IsRetained last history number = (oldest_of last.retained (length history) ≤ number) × (number ≤ length history)

-- these versions without the oldest, where there is one more than is retained
abbrev pub newest_of : ℕ → List Kept → List Kept
newest_of retained versions = if nat_lt retained (length versions) then remove versions 0 else versions

-- the last versions with the next, without the oldest where there is then one too many
abbrev pub with_next : Last → Kept → Last
with_next last next = record { shape = last.shape; retained = last.retained; versions = newest_of last.retained (last.versions ++ next ∷ []) }

-- it may come next: there is a history of which these are the last versions, and it stands for one update more
abbrev pub MayFollow : Last → Kept → Type 0
MayFollow last next = (history : List Entry) × (e : Entry) × AreLast history last × (next.shape ≡ last.shape) × StandsFor next (history ++ e ∷ [])
