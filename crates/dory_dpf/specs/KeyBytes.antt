-- The bytes of a key, and reading them from left to right.
use Rattle.std.specs.Prelude.{ℕ, ◌+◌, ◌*◌, ◌%◌, ◌==◌, nat_le, Bool, cond, if◌then◌else◌, List, [], ◌∷◌, ◌++◌, length, slice_index, flat_map, Option, None, Some, Result, Ok, Err}
use Rattle.std.specs.Int.{is_in_range}
use Rattle.dory_fields.specs.declared.fault.FieldFault.{FieldFault}
use Rattle.dory_fields.specs.declared.fault.FieldFault.TheVariants.{CutShort, OutOfRange, NoMemory}
use Rattle.dory_fields.specs.Reading.{◌>>=◌, Read, byte_at, field_at, many_at}
use Rattle.dory_dpf.specs.declared.tree.Correction.{Correction}
use Rattle.dory_dpf.specs.declared.key_fault.KeyFault.{KeyFault}
use Rattle.dory_dpf.specs.declared.key_fault.KeyFault.TheVariants.{KeyLength, KeyDepth, KeyPadding}
use Rattle.dory_dpf.specs.PointKey.{PointKey, levels_of, last_len, last_bytes}

-- the left bit is the lowest of a control byte, the right bit the next
abbrev pub control_byte : Bool → Bool → ℕ
control_byte left right = cond left 1 0 + cond right 2 0

-- a correction: its seed, then its control byte
abbrev pub correction_bytes : Correction → List ℕ
correction_bytes c = c.seed ++ control_byte c.left_bit c.right_bit ∷ []

-- depth, party, seed, then for each level the correction's seed and its control byte, and in form 2 the last word
unfoldable pub bytes_of_key : PointKey → List ℕ
bytes_of_key key = key.depth ∷ key.party ∷ key.seed ++ flat_map correction_bytes key.corrections ++ last_bytes key.last

-- how many bytes a key has
abbrev pub key_len : ℕ → ℕ → ℕ
key_len form depth = 18 + 17 * levels_of form depth + last_len form

-- the depth of a key, which is asked for
abbrev pub is_depth_of : ℕ → ℕ → Bool
is_depth_of depth = is_in_range depth depth

-- the party of a key
abbrev pub is_party : ℕ → Bool
is_party = is_in_range 0 1

-- the control byte of a correction, whose higher bits are zero
abbrev pub is_control : ℕ → Bool
is_control = is_in_range 0 3

-- a correction: its seed, then its control byte
unfoldable pub correction_at : ℕ → List ℕ → Read Correction
correction_at total bytes = do
  seed ← field_at 16 total bytes
  control ← byte_at is_control total seed.1
  Ok (record { seed = seed.0; left_bit = control.0 % 2 == 1; right_bit = nat_le 2 control.0 }, control.1)

-- the last word, which a key of form 2 has
unfoldable pub last_at : ℕ → ℕ → List ℕ → Read (Option (List ℕ))
last_at form total bytes =
    if form == 1 then Ok (None, bytes)
    else (do
      word ← field_at 16 total bytes
      Ok (Some word.0, word.1))

-- a key of this form and depth: its depth, its party, its seed, the corrections of its levels, and its last word
unfoldable pub key_at : ℕ → ℕ → ℕ → List ℕ → Read PointKey
key_at form depth total bytes = do
  same ← byte_at (is_depth_of depth) total bytes
  party ← byte_at is_party total same.1
  seed ← field_at 16 total party.1
  corrections ← many_at correction_at (levels_of form depth) total seed.1
  last ← last_at form total corrections.1
  Ok (record { depth = depth; party = party.0; seed = seed.0; corrections = corrections.0; last = last.0 }, last.1)

-- what a field's fault is where so many bytes are wanted: the first byte is the depth, and the others have bits that must be zero
abbrev pub key_fault : ℕ → List ℕ → FieldFault → KeyFault
key_fault want bytes (CutShort at) = KeyLength (length bytes) want
key_fault want bytes (OutOfRange at) = if at == 0 then KeyDepth (slice_index bytes 0) else KeyPadding at
key_fault want bytes NoMemory = KeyLength (length bytes) want

-- what was read, where so many bytes are wanted
abbrev pub read_of : ℕ → List ℕ → Read PointKey → Result PointKey KeyFault
read_of want bytes (Ok x) = Ok x.0
read_of want bytes (Err e) = Err (key_fault want bytes e)

-- the key of a form and a depth that bytes are: their number first, then their fields
unfoldable pub key_of : ℕ → ℕ → List ℕ → Result PointKey KeyFault
key_of form depth bytes =
    if length bytes == key_len form depth
    then read_of (key_len form depth) bytes (key_at form depth (length bytes) bytes)
    else Err (KeyLength (length bytes) (key_len form depth))
