-- What a disk in memory remembers: the calls that changed it, and so each image that a crash might have left.
use Rattle.std.specs.Prelude.{ℕ, ◌≡◌, ◌≤◌, ◌+◌, ◌||◌, ◌&&◌, nat_lt, nat_le, Bool, true, if◌then◌else◌, List, [], ◌∷◌, length, take, drop}
use Rattle.dory_io.specs.Causes.{one_more, is_next_listed}
use Rattle.dory_disk.specs.Disk.{overwritten, Torn}
use Rattle.dory_io.specs.declared.fails.Fails.{Fails}
use Rattle.dory_disk.specs.declared.mem_disk.Done.{Done}
use Rattle.dory_disk.specs.declared.mem_disk.Done.TheVariants.{Wrote, Synced}

-- a range of places that was written
pub record Range : Type 0 where
  pub place : ℕ
  pub size : ℕ

-- what is read of a disk, what it had at the last sync, and the ranges written since, the last one first
pub record Held : Type 0 where
  pub bytes : List ℕ
  pub synced : List ℕ
  pub ranges : List Range

-- a new disk holds one zero byte
abbrev pub new_disk : Held
new_disk = record { bytes = 0 ∷ []; synced = 0 ∷ []; ranges = [] }

-- the disk after a call, what it wrote being the first of these bytes
abbrev pub held_after : Held → Done → List ℕ → Held
held_after h (Wrote place size) text = record { bytes = overwritten place (take size text) h.bytes; synced = h.synced; ranges = record { place = place; size = size } ∷ h.ranges }
held_after h Synced text = record { bytes = h.bytes; synced = h.bytes; ranges = [] }

-- how many bytes a call wrote
abbrev pub size_of : Done → ℕ
size_of (Wrote place size) = size
size_of Synced = 0

-- the disk after calls, what they wrote standing one after the other in the text
abbrev pub replay : List Done → List ℕ → Held → Held
replay [] text h = h
replay (d ∷ done) text h = replay done (drop (size_of d) text) (held_after h d text)

-- how many bytes calls wrote
abbrev pub sizes : List Done → ℕ
sizes [] = 0
sizes (d ∷ done) = size_of d + sizes done

-- a call begins within the bytes
abbrev pub begins_within : Held → Done → Bool
begins_within h (Wrote place size) = nat_le place (length h.bytes)
begins_within h Synced = true

-- each call began within the bytes that it found
abbrev pub all_begin_within : List Done → List ℕ → Held → Bool
all_begin_within [] text h = true
all_begin_within (d ∷ done) text h = begins_within h d && all_begin_within done (drop (size_of d) text) (held_after h d text)

-- what a crash may leave of synced bytes where these ranges were written since: each write torn, one after the other
abbrev pub TornBy : List Range → List ℕ → List ℕ → Type 0
TornBy [] synced c = c ≡ synced
TornBy (r ∷ ranges) synced c = (d : List ℕ) × TornBy ranges synced d × Torn r.place r.size d c

-- what a crash may leave of a disk
abbrev pub Leaves : Held → List ℕ → Type 0
Leaves h c = TornBy h.ranges h.synced c

-- what a crash after these calls may leave of a disk that was new
abbrev pub MayLeave : List Done → List ℕ → List ℕ → Type 0
MayLeave done text c = Leaves (replay done text new_disk) c

-- what a crash might have left after so many calls or later
abbrev pub LeftSince : List Done → List ℕ → ℕ → List ℕ → Type 0
LeftSince done text t c = (k : ℕ) × (t ≤ k) × (k ≤ length done) × MayLeave (take k done) text c

-- the next call is on the list of those that are to fail, or is beyond the calls or the bytes that there is room for
abbrev pub is_refused : ℕ → Fails → ℕ → ℕ → Bool
is_refused room fails written size = is_next_listed fails || (nat_lt room (one_more fails.calls) || nat_lt room (written + size))

-- the counts after one more call, of which no fault comes but one that was to come
abbrev pub counted : Bool → Fails → Fails
counted refused f = record f { calls = one_more f.calls; faults = if refused then one_more f.faults else f.faults }
