-- What reading a disk finds at its gates.
use Rattle.std.specs.Prelude.{ℕ, ◌≡◌, ◌⊎◌, ◌+◌, ◌-◌, ◌≤◌, ⊤, false, List, [], ◌∷◌, ◌++◌, length, drop, Option, Some, None, Result, Ok, Err}
use Rattle.std.specs.List.{fold}
use Rattle.dory_base.specs.Dims.{Dims}
use Rattle.dory_base.specs.Log.{Log, empty_log}
use Rattle.dory_base.specs.declared.ids.Side.{Side}
use Rattle.dory_log.specs.Spared.{Spared}
use Rattle.dory_wire.specs.declared.message.Request.{Request}
use Rattle.dory_journal.specs.declared.fault.JournalFault.{JournalFault}
use Rattle.dory_journal.specs.declared.fault.JournalFault.TheVariants.{DiskFault, Damaged, Broken, NoMemory}
use Rattle.dory_journal.specs.Ops.{Op, log_after_op, op_of_want}
use Rattle.dory_journal.specs.Bytes.{Lost, Shut, Bad, Holds, look_at, op_at, scan, scan_of, ops_of, with_ops}
use Rattle.dory_journal.specs.Recording.{IsAt}

-- the faults of a reading: of the disk, or want of memory
abbrev pub IsReading : JournalFault → Type 0
IsReading DiskFault = ⊤
IsReading (Damaged at) = ⊥
IsReading Broken = ⊥
IsReading NoMemory = ⊤

-- what is found behind an open gate: no record of an operation, or one and the place of the next gate
abbrev pub FindsAs : ℕ → ℕ → List ℕ → Result (Option (Request × ℕ)) JournalFault → Type 0
FindsAs folder gate bytes (Ok None) = op_at folder (drop (gate + 1) bytes) ≡ None
FindsAs folder gate bytes (Ok (Some r)) = (op : Op) × (op_of_want r.0.want ≡ Some op) × (op_at folder (drop (gate + 1) bytes) ≡ Some (op, drop r.1 bytes))
FindsAs folder gate bytes (Err DiskFault) = ⊤
FindsAs folder gate bytes (Err (Damaged at)) = ⊥
FindsAs folder gate bytes (Err Broken) = ⊥
FindsAs folder gate bytes (Err NoMemory) = ⊤

-- what a look at a gate gives
abbrev pub LooksAs : ℕ → ℕ → List ℕ → Result (Option (Request × ℕ)) JournalFault → Type 0
LooksAs folder gate bytes (Ok None) = look_at folder (drop gate bytes) ≡ Shut
LooksAs folder gate bytes (Ok (Some r)) = (op : Op) × (op_of_want r.0.want ≡ Some op) × (look_at folder (drop gate bytes) ≡ Holds op (drop r.1 bytes))
LooksAs folder gate bytes (Err (Damaged at)) = (at ≡ gate) × ((look_at folder (drop gate bytes) ≡ Lost) ⊎ (look_at folder (drop gate bytes) ≡ Bad))
LooksAs folder gate bytes (Err DiskFault) = ⊤
LooksAs folder gate bytes (Err Broken) = ⊥
LooksAs folder gate bytes (Err NoMemory) = ⊤

-- bytes in which the first gate that is open and has no lawful record, or that isn't there, is at this place
pub record IsDamagedAt (folder : ℕ) (role : Side) (shape : Dims) (bytes : List ℕ) (at : ℕ) : Type 0 where
  pub damaged : (scan_of folder role shape bytes).whole ≡ false
  pub place : at ≡ length bytes - length (scan_of folder role shape bytes).rest

-- what loading bytes gives: the log and the gate, or the place of the damage
abbrev pub LoadsAs : ℕ → Side → Dims → Log → List ℕ → Result ℕ JournalFault → Type 0
LoadsAs folder role shape log bytes (Ok gate) = IsAt folder role shape log gate bytes
LoadsAs folder role shape log bytes (Err (Damaged at)) = IsDamagedAt folder role shape bytes at
LoadsAs folder role shape log bytes (Err DiskFault) = ⊤
LoadsAs folder role shape log bytes (Err Broken) = ⊥
LoadsAs folder role shape log bytes (Err NoMemory) = ⊤

-- the operations up to a gate were read into the log: a scan of all goes on there
pub record IsLoaded (folder : ℕ) (role : Side) (shape : Dims) (log : Log) (gate : ℕ) (bytes : List ℕ) : Type 0 where
  pub ops : List Op
  pub goes_on : scan_of folder role shape bytes ≡ with_ops ops (scan (length bytes) folder log (drop gate bytes))
  pub within : gate ≤ length bytes

-- what a step at a gate gives: the end, one operation more, or the place of the damage
abbrev pub StepsAs : ℕ → Side → Dims → Log → ℕ → List ℕ → Result (Option ℕ) JournalFault → Type 0
StepsAs folder role shape log gate bytes (Ok None) = IsAt folder role shape log gate bytes
StepsAs folder role shape log gate bytes (Ok (Some next)) = IsLoaded folder role shape log next bytes
StepsAs folder role shape log gate bytes (Err (Damaged at)) = IsDamagedAt folder role shape bytes at
StepsAs folder role shape log gate bytes (Err DiskFault) = ⊤
StepsAs folder role shape log gate bytes (Err Broken) = ⊥
StepsAs folder role shape log gate bytes (Err NoMemory) = ⊤

-- what opening bytes gives: the log and the gate, or the place of the damage
abbrev pub OpensAs : ℕ → Side → Dims → List ℕ → Result (Spared × ℕ) JournalFault → Type 0
OpensAs folder role shape bytes (Ok r) = IsAt folder role shape r.0.log r.1 bytes
OpensAs folder role shape bytes (Err (Damaged at)) = IsDamagedAt folder role shape bytes at
OpensAs folder role shape bytes (Err DiskFault) = ⊤
OpensAs folder role shape bytes (Err Broken) = ⊥
OpensAs folder role shape bytes (Err NoMemory) = ⊤

-- ---- the gates of a list, one after the other

-- the gate behind these first operations of the list: the list goes on there
pub record IsGate (folder : ℕ) (role : Side) (shape : Dims) (ops : List Op) (gate : ℕ) (bytes : List ℕ) : Type 0 where
  pub goes_on : scan_of folder role shape bytes ≡ with_ops ops (scan (length bytes) folder (fold log_after_op (empty_log role shape) ops) (drop gate bytes))

-- what a look at that gate gives: the end of the list, or its next operation and the gate behind it
abbrev pub WalksAs : ℕ → Side → Dims → List Op → List ℕ → Result (Option (Request × ℕ)) JournalFault → Type 0
WalksAs folder role shape ops bytes (Ok None) = ops_of folder role shape bytes ≡ ops
WalksAs folder role shape ops bytes (Ok (Some r)) = (op : Op) × (op_of_want r.0.want ≡ Some op) × IsGate folder role shape (ops ++ op ∷ []) r.1 bytes
WalksAs folder role shape ops bytes (Err (Damaged at)) = ⊥
WalksAs folder role shape ops bytes (Err DiskFault) = ⊤
WalksAs folder role shape ops bytes (Err Broken) = ⊥
WalksAs folder role shape ops bytes (Err NoMemory) = ⊤
