-- The version that a reader takes of a published history: one of the last.
use Rattle.std.specs.Prelude.{ℕ, ◌≡◌, ◌+◌, ◌-◌, ◌&&◌, nat_le, Bool, length, take, if◌then◌else◌, Result, Ok, Err}
use Rattle.std.specs.Arc.{arc_value}
use Rattle.std.specs.declared.sync.Arc.{Arc}
use Rattle.std.specs.declared.alloc.Global.{Global}
use Rattle.dory_base.specs.TableMeaning.{Kept, kept_of}
use Rattle.dory_base.specs.declared.refusal.Refusal.{Refusal}
use Rattle.dory_base.specs.declared.refusal.Refusal.TheVariants.{Unretained, NoMemory}
use Rattle.dory_chunks.specs.declared.version.Version.{Version}
use Rattle.dory_shelf.specs.Published.{Published, history_of}

-- the newest version
abbrev pub newest_of : Published → ℕ
newest_of h = length (history_of h)

-- the oldest version that is retained
abbrev pub oldest_of : Published → ℕ
oldest_of h = newest_of h + 1 - h.shelf.retained

-- the version of this number is among the last
abbrev pub is_retained : Published → ℕ → Bool
is_retained h number = nat_le (oldest_of h) number && nat_le number (newest_of h)

-- the table of all updates that were appended up to a number
abbrev pub table_at : Published → ℕ → Kept
table_at h number = kept_of h.shelf.shape (take number (history_of h))

-- the version of a number, or which versions are retained
abbrev pub version_at : Published → ℕ → Result Kept Refusal
version_at h number = if is_retained h number then Ok (table_at h number) else Err (Unretained (oldest_of h) (newest_of h))

-- so it was answered, or that memory ran out for a version
abbrev pub IsAnswer : Result Kept Refusal → Result (Arc Version Global) Refusal → Type 0
IsAnswer (Ok table) (Ok version) = arc_value version ≡ table
IsAnswer (Ok table) (Err code) = code ≡ NoMemory
IsAnswer (Err fault) (Ok version) = ⊥
IsAnswer (Err fault) (Err code) = code ≡ fault
