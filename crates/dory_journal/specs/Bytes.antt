-- The operations that bytes keep: behind each open gate, a byte 1, the frame of one, and then the next gate.
use Rattle.std.specs.Prelude.{ℕ, zero, suc, ◌≡◌, ◌==◌, ◌&&◌, Bool, true, false, if◌then◌else◌, List, [], ◌∷◌, ◌++◌, length, Option, Some, None, Result, Ok, Err}
use Rattle.dory_base.specs.Dims.{Dims}
use Rattle.dory_base.specs.Log.{Log, empty_log}
use Rattle.dory_base.specs.declared.ids.Side.{Side}
use Rattle.dory_base.specs.declared.ids.AskId.{AskId}
use Rattle.dory_wire.specs.declared.fault.WireFault.{WireFault}
use Rattle.dory_wire.specs.declared.message.Request.{Request}
use Rattle.dory_wire.specs.Cut.{front_of}
use Rattle.dory_wire.specs.Frame.{frame_of}
use Rattle.dory_wire.specs.Reading.{request_of}
use Rattle.dory_wire.specs.Spelling.{spelling_of_request}
use Rattle.dory_journal.specs.Ops.{Op, want_of_op, op_of_want, may, log_after_op}

-- ---- a record

-- the ask of a record
abbrev pub no_ask : AskId
no_ask = record { member = record { 0 = 0 }; serial = 0; step = 0 }

-- it is the ask of a record
abbrev pub is_no_ask : AskId → Bool
is_no_ask a = (a.member.0 == 0) && ((a.serial == 0) && (a.step == 0))

-- a record of this folder
abbrev pub is_own : ℕ → Request → Bool
is_own folder r = is_no_ask r.ask && (r.folder.0 == folder)

-- the operation that a message of this folder keeps
abbrev pub op_of_request : ℕ → Result Request WireFault → Option Op
op_of_request folder (Err fault) = None
op_of_request folder (Ok r) = if is_own folder r then op_of_want r.want else None

-- an operation, if there is one, with the bytes behind it
abbrev pub with_rest : List ℕ → Option Op → Option (Op × List ℕ)
with_rest rest None = None
with_rest rest (Some op) = Some (op, rest)

-- the operation of the first frame that was cut from bytes, with the bytes behind it
abbrev pub op_of_front : ℕ → Result (Option (List ℕ × List ℕ)) ℕ → Option (Op × List ℕ)
op_of_front folder (Err n) = None
op_of_front folder (Ok None) = None
op_of_front folder (Ok (Some front)) = with_rest front.1 (op_of_request folder (request_of front.0))

-- the operation behind an open gate, and the bytes from the next gate on
abbrev pub op_at : ℕ → List ℕ → Option (Op × List ℕ)
op_at folder bytes = op_of_front folder (front_of bytes)

-- the frame of an operation
abbrev pub frame_of_op : ℕ → Op → List ℕ
frame_of_op folder op = frame_of (spelling_of_request (record { ask = no_ask; folder = record { 0 = folder }; want = want_of_op op }))

-- what comes behind a gate: the frame of an operation, and a shut gate
abbrev pub piece_of_op : ℕ → Op → List ℕ
piece_of_op folder op = frame_of_op folder op ++ 0 ∷ []

-- ---- all of them

-- operations, the log after them, the bytes from the last gate on, and whether that gate is there and shut
pub record Scan : Type 0 where
  pub ops : List Op
  pub log : Log
  pub rest : List ℕ
  pub whole : Bool

-- a scan that finds no further operation, and stops at these bytes
abbrev pub stopped : Log → List ℕ → Bool → Scan
stopped log rest whole = record { ops = []; log = log; rest = rest; whole = whole }

-- this operation, and then what a scan found
abbrev pub with_op : Op → Scan → Scan
with_op op s = record { ops = op ∷ s.ops; log = s.log; rest = s.rest; whole = s.whole }

-- what stands behind an open gate, and then what next finds
abbrev pub scan_on : (Log → List ℕ → Scan) → Log → List ℕ → Option (Op × List ℕ) → Scan
scan_on next log bytes None = stopped log bytes false
scan_on next log bytes (Some x) = if may log x.0 then with_op x.0 (next (log_after_op log x.0) x.1) else stopped log bytes false

-- the operations from a gate on, at most so many
abbrev pub scan : ℕ → ℕ → Log → List ℕ → Scan
scan zero folder log bytes = stopped log bytes false
scan (suc n) folder log [] = stopped log [] false
scan (suc n) folder log (gate ∷ rest) = if gate == 1 then scan_on (scan n folder) log (gate ∷ rest) (op_at folder rest) else stopped log (gate ∷ rest) true

-- these operations, and then what a scan found
abbrev pub with_ops : List Op → Scan → Scan
with_ops ops s = record { ops = ops ++ s.ops; log = s.log; rest = s.rest; whole = s.whole }

-- what bytes keep of a folder with this number, role and shape
unfoldable pub scan_of : ℕ → Side → Dims → List ℕ → Scan
scan_of folder role shape bytes = scan (length bytes) folder (empty_log role shape) bytes

-- the operations that bytes keep
abbrev pub ops_of : ℕ → Side → Dims → List ℕ → List Op
ops_of folder role shape bytes = (scan_of folder role shape bytes).ops

-- bytes that keep these operations, up to a shut gate
pub record Keeps (folder : ℕ) (role : Side) (shape : Dims) (ops : List Op) (bytes : List ℕ) : Type 0 where
  pub whole : (scan_of folder role shape bytes).whole ≡ true
  pub are : ops_of folder role shape bytes ≡ ops

-- ---- one gate

-- what stands at a gate: no byte, a shut one, no frame of an operation behind an open one, or an operation and the bytes from the next gate on
pub data Look : Type 0 where
  Lost : Look
  Shut : Look
  Bad : Look
  Holds : Op → List ℕ → Look

-- what an open gate shows, by the operation behind it
abbrev pub look_on : Option (Op × List ℕ) → Look
look_on None = Bad
look_on (Some x) = Holds x.0 x.1

-- what the first gate of these bytes shows
abbrev pub look_at : ℕ → List ℕ → Look
look_at folder [] = Lost
look_at folder (gate ∷ rest) = if gate == 1 then look_on (op_at folder rest) else Shut
