-- What recording an operation leaves on the disk.
use Rattle.std.specs.Prelude.{ℕ, ◌≡◌, ◌⊎◌, ◌+◌, ◌≤◌, Bool, true, false, List, ◌++◌, ◌∷◌, [], length, drop, Option, Some, None, option_map}
use Rattle.dory_base.specs.Dims.{Dims}
use Rattle.dory_base.specs.Log.{Log}
use Rattle.dory_base.specs.declared.ids.Side.{Side}
use Rattle.dory_wire.specs.declared.message.Want.{Want}
use Rattle.dory_journal.specs.declared.fault.JournalFault.{JournalFault}
use Rattle.dory_journal.specs.declared.fault.JournalFault.TheVariants.{DiskFault, Damaged, Broken, NoMemory}
use Rattle.dory_journal.specs.Ops.{Op}
use Rattle.dory_journal.specs.Made.{with_made, HasAsked}
use Rattle.dory_journal.specs.Bytes.{Keeps, scan_of, ops_of, op_at, frame_of_op, piece_of_op}
use Rattle.dory_journal.specs.Runs.{LeavesOnly}
use Rattle.dory_journal.specs.Writing.{opened}

-- what a journal knows of its bytes: the log after their operations, and the place of the shut gate behind them
pub record IsAt (folder : ℕ) (role : Side) (shape : Dims) (log : Log) (gate : ℕ) (bytes : List ℕ) : Type 0 where
  pub log_is : (scan_of folder role shape bytes).log ≡ log
  pub rest_is : (scan_of folder role shape bytes).rest ≡ drop gate bytes
  pub whole : (scan_of folder role shape bytes).whole ≡ true
  pub within : gate + 1 ≤ length bytes

-- what comes behind a gate for an operation, and that its frame is read as that operation, whatever follows
pub record IsPiece (folder : ℕ) (op : Op) (piece : List ℕ) : Type 0 where
  pub frame : List ℕ
  pub frame_is : frame ≡ frame_of_op folder op
  pub is : piece ≡ frame ++ 0 ∷ []
  pub reads : (more : List ℕ) → op_at folder (frame ++ more) ≡ Some (op, more)

-- the bytes that are told have an open gate at this place, and behind it the frame of what was made and a shut gate
abbrev pub IsPut : ℕ → ℕ → Option Op → Option (List ℕ) → Option (List ℕ) → Type 0
IsPut folder gate None before now = now ≡ before
IsPut folder gate (Some op) before now = now ≡ option_map (opened gate (piece_of_op folder op)) before

-- the bytes that are told keep these operations
abbrev pub TellsOps : ℕ → Side → Dims → List Op → Option (List ℕ) → Type 0
TellsOps folder role shape ops told = (b : List ℕ) × (told ≡ Some b) × Keeps folder role shape ops b

-- the bytes keep these operations, with the one that was made or without it
abbrev pub IsWithOrWithout : ℕ → Side → Dims → List Op → Option Op → List ℕ → Type 0
IsWithOrWithout folder role shape ops made bytes = Keeps folder role shape ops bytes ⊎ Keeps folder role shape (with_made ops made) bytes

-- the bytes keep what they kept, and what was made
abbrev pub Records : Option (List ℕ) → Option (List ℕ) → ℕ → Log → Option Op → Type 0
Records before now folder log made =
    (b : List ℕ) → before ≡ Some b → TellsOps folder log.role log.shape (with_made (ops_of folder log.role log.shape b) made) now

-- a crash at any moment leaves what the bytes kept, with what was made or without it
abbrev pub LeavesRecord : {D : Type 0} → (D → Option (List ℕ)) → (D → ℕ) → (D → ℕ → List ℕ → Type 0) → D → D → ℕ → Log → Option Op → Type 0
LeavesRecord told moment left_since old new folder log made =
    (b : List ℕ) → told old ≡ Some b → LeavesOnly moment left_since old new (IsWithOrWithout folder log.role log.shape (ops_of folder log.role log.shape b) made)

-- what is told stays told, and has what the bytes kept, with what was made or without it
abbrev pub StaysTold : Option (List ℕ) → Option (List ℕ) → ℕ → Log → Option Op → Type 0
StaysTold before now folder log made =
    (b : List ℕ) → before ≡ Some b → (c : List ℕ) × (now ≡ Some c) × IsWithOrWithout folder log.role log.shape (ops_of folder log.role log.shape b) made c

-- whatever a crash now may leave has what was asked
abbrev pub IsAcknowledged : Option (List ℕ) → (List ℕ → Type 0) → ℕ → Log → Want → Type 0
IsAcknowledged before images folder log want =
    (b : List ℕ) → before ≡ Some b → (c : List ℕ) → images c → HasAsked log want (ops_of folder log.role log.shape c)

-- a journal that is broken after a fault of the disk, and as it was after want of memory; a record that fails has no other fault
abbrev pub FailsAs : Type 0 → Type 0 → Bool → JournalFault → Type 0
FailsAs same_disk same_log broken DiskFault = broken ≡ true
FailsAs same_disk same_log broken (Damaged at) = ⊥
FailsAs same_disk same_log broken Broken = ⊥
FailsAs same_disk same_log broken NoMemory = same_disk × same_log × (broken ≡ false)
