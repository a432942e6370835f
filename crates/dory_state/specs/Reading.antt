-- The reading of a kept state from left to right, with the first fault that is met.
use Rattle.std.specs.Prelude.{◌≡◌, ℕ, ◌-◌, Bool, List, length, take, drop, Option, Some, None, Result, Ok, Err, ◌==◌, if◌then◌else◌, codes}
use Rattle.std.specs.Str.{bytes_eq}
use Rattle.std.specs.Int.{w32, w64, is_in_range}
use Rattle.dory_base.specs.Dims.{Dims, column_count}
use Rattle.dory_base.specs.declared.ids.FolderId.{FolderId}
use Rattle.dory_base.specs.declared.ids.MemberId.{MemberId}
use Rattle.dory_fields.specs.declared.fault.FieldFault.{FieldFault}
use Rattle.dory_fields.specs.declared.fault.FieldFault.TheVariants as field
use Rattle.dory_fields.specs.Reading.{Read, ◌>>=◌, bits_at, byte_at, field_at, number_at, tested_at}
use Rattle.dory_state.specs.declared.fault.StateFault.{StateFault}
use Rattle.dory_state.specs.declared.fault.StateFault.TheVariants as fault
use Rattle.dory_state.specs.declared.kept.Pending.{Pending}
use Rattle.dory_state.specs.declared.kept.Head.{Head}
use Rattle.dory_state.specs.declared.kept.KeptState.{KeptState}

-- memory ran out, or reading gives this fault
abbrev pub Fails : {Y : Type 0} → StateFault → Result Y StateFault → Type 0
Fails fault.NoMemory read = Unit {0}
Fails f read = read ≡ Err f

-- unless memory ran out, it is what reading gives
abbrev pub Gives : {Y : Type 0} → Result Y StateFault → Result Y StateFault → Type 0
Gives (Ok x) read = read ≡ Ok x
Gives (Err e) read = Fails e read

-- whose state it is: the folder at 8, and the member, at most 63, at 12
unfoldable pub owner_at : ℕ → List ℕ → Read (FolderId × MemberId)
owner_at total bytes = do
  folder ← number_at w32 total bytes
  member ← tested_at w32 (is_in_range 0 63) total folder.1
  Ok ((record { 0 = folder.0 }, record { 0 = member.0 }), member.1)

-- the depth, 8 to 11, at 16, and the probes, 1 to 8, at 17
unfoldable pub shape_at : ℕ → List ℕ → Read Dims
shape_at total bytes = do
  depth ← byte_at (is_in_range 8 11) total bytes
  probes ← byte_at (is_in_range 1 8) total depth.1
  Ok (record { depth = depth.0; probes = probes.0 }, probes.1)

-- the next serial, from 1 to `latest`, at 50, and the version seen, at most 1,048,576, at 58
unfoldable pub counts_at : ℕ → ℕ → List ℕ → Read (ℕ × ℕ)
counts_at latest total bytes = do
  next ← tested_at w64 (is_in_range 1 latest) total bytes
  seen ← tested_at w32 (is_in_range 0 1048576) total next.1
  Ok ((next.0, seen.0), seen.1)

-- what both forms have, the master key of 32 bytes at 18 among it
unfoldable pub head_at : ℕ → ℕ → List ℕ → Read Head
head_at latest total bytes = do
  owner ← owner_at total bytes
  shape ← shape_at total owner.1
  master ← field_at 32 total shape.1
  counts ← counts_at latest total master.1
  Ok (record { folder = owner.0.0; member = owner.0.1; shape = shape.0; master = master.0; next_serial = counts.0.0; seen = counts.0.1 }, counts.1)

-- the row of a post, which is of kind 1; a removal, of kind 2, has none
unfoldable pub row_at : Dims → ℕ → ℕ → List ℕ → Read (Option (List Bool))
row_at shape kind total bytes =
    if kind == 1 then (bits_at (column_count shape) total bytes >>= λ row. Ok (Some row.0, row.1)) else Ok (None, bytes)

-- a pending update of this kind: its serial, which is below the next one, its document, and its row
unfoldable pub update_at : Dims → ℕ → ℕ → ℕ → List ℕ → Read Pending
update_at shape next kind total bytes = do
  serial ← tested_at w64 (is_in_range 1 (next - 1)) total bytes
  doc ← number_at w32 total serial.1
  row ← row_at shape kind total doc.1
  Ok (record { serial = serial.0; doc = record { 0 = doc.0 }; row = row.0 }, row.1)

-- the kind, 0 where nothing is pending, and what is pending
unfoldable pub pending_at : Dims → ℕ → ℕ → List ℕ → Read (Option Pending)
pending_at shape next total bytes = do
  kind ← byte_at (is_in_range 0 2) total bytes
  if kind.0 == 0 then Ok (None, kind.1)
      else (update_at shape next kind.0 total kind.1 >>= λ p. Ok (Some p.0, p.1))

-- the state of these fields
abbrev pub kept : Head → ℕ → Option Pending → KeptState
kept h used pending = record { folder = h.folder; member = h.member; shape = h.shape; master = h.master; next_serial = h.next_serial; seen = h.seen; used = used; pending = pending }

-- the second form: how many posts are used, at most 65,536, stands at 62, and what is pending at 66
unfoldable pub second_at : ℕ → List ℕ → Read KeptState
second_at total bytes = do
  head ← head_at 18446744073709551615 total bytes
  used ← tested_at w32 (is_in_range 0 65536) total head.1
  pending ← pending_at head.0.shape head.0.next_serial total used.1
  Ok (kept head.0 used.0 pending.0, pending.1)

-- the first form counts no posts, and its next serial is at most 2 ^ 56; what is pending stands at 62
unfoldable pub first_at : ℕ → List ℕ → Read KeptState
first_at total bytes = do
  head ← head_at 72057594037927936 total bytes
  pending ← pending_at head.0.shape head.0.next_serial total head.1
  Ok (kept head.0 0 pending.0, pending.1)

-- the fault that a field's fault is of bytes that are so many in all
abbrev pub field_fault : ℕ → FieldFault → StateFault
field_fault total (field.CutShort at) = fault.Length total
field_fault total (field.OutOfRange at) = fault.Field at
field_fault total field.NoMemory = fault.NoMemory

-- what was read of so many bytes in all, where nothing follows
abbrev pub whole : ℕ → Read KeptState → Result KeptState StateFault
whole total (Ok x) = if length x.1 == 0 then Ok x.0 else Err (fault.Length total)
whole total (Err e) = Err (field_fault total e)

-- the state that bytes are, in the form that their first eight bytes name
unfoldable pub state_of : List ℕ → Result KeptState StateFault
state_of bytes =
    if bytes_eq (take 8 bytes) (codes "dorystt2") then whole (length bytes) (second_at (length bytes) (drop 8 bytes))
    else if bytes_eq (take 8 bytes) (codes "dorystt1") then whole (length bytes) (first_at (length bytes) (drop 8 bytes))
    else Err fault.Header
