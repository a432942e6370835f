-- Reading fields from left to right, up to the first fault.
use Rattle.std.specs.Prelude.{ℕ, zero, suc, ◌≡◌, ◌-◌, nat_lt, Bool, true, false, if◌then◌else◌, List, [], ◌∷◌, length, take, drop, Result, Ok, Err}
use Rattle.std.specs.Int.{Width, byte_len, from_be_bytes}
use Rattle.dory_fields.specs.declared.fault.FieldFault.{FieldFault}
use Rattle.dory_fields.specs.declared.fault.FieldFault.TheVariants.{CutShort, OutOfRange, NoMemory}
use Rattle.dory_fields.specs.Left.{Left}
use Rattle.dory_fields.specs.Packing.{packed_len, bits_in, is_clear}

-- a field's value and the bytes after it, or a fault
abbrev pub Read : Type 0 → Type 0
Read A = Result (A × List ℕ) FieldFault

infixl 10 ◌>>=◌
-- go on with what was read, or stop at the fault
abbrev pub ◌>>=◌ : {A B : Type 0} → Result A FieldFault → (A → Result B FieldFault) → Result B FieldFault
(Ok x) >>= f = f x
(Err e) >>= f = Err e

-- a fault is the one that reading finds, and memory may run out
abbrev pub Fails : {Y : Type 0} → FieldFault → Result Y FieldFault → Type 0
Fails (CutShort at) read = read ≡ Err (CutShort at)
Fails (OutOfRange at) read = read ≡ Err (OutOfRange at)
Fails NoMemory read = Unit {0}

-- what a reader returned, seen by view, is what reading gives, unless memory ran out
abbrev pub GivesBy : {X Y : Type 0} → (X → Y) → Result X FieldFault → Result Y FieldFault → Type 0
GivesBy view (Ok x) read = read ≡ Ok (view x)
GivesBy view (Err e) read = Fails e read

-- a reader went on as reading gives, seen by view
abbrev pub Reads : {X Y : Type 0} → (X → Y) → Result X FieldFault → (ℕ → List ℕ → Read Y) → Left → Left → Type 0
Reads view result read old new = (new.total ≡ old.total) × GivesBy (λ x. (view x, new.rest)) result (read old.total old.rest)

-- how many of `total` bytes stand before what is left to read
abbrev pub place : ℕ → List ℕ → ℕ
place total bytes = total - length bytes

-- a field of so many bytes; a fault names its first byte where it is cut short
abbrev pub field_at : ℕ → ℕ → List ℕ → Read (List ℕ)
field_at n total bytes = if nat_lt (length bytes) n then Err (CutShort (place total bytes)) else Ok (take n bytes, drop n bytes)

-- a field's value where it is in range; else a fault at the field's first byte
abbrev pub ranged : {A : Type 0} → ℕ → List ℕ → Bool → A → Result A FieldFault
ranged total bytes true x = Ok x
ranged total bytes false x = Err (OutOfRange (place total bytes))

-- a number of this width, the highest byte first
unfoldable pub number_at : Width → ℕ → List ℕ → Read ℕ
number_at w total bytes =
    if nat_lt (length bytes) (byte_len w)
    then Err (CutShort (place total bytes))
    else Ok (from_be_bytes w (take (byte_len w) bytes), drop (byte_len w) bytes)

-- a number of this width that meets a test
unfoldable pub tested_at : Width → (ℕ → Bool) → ℕ → List ℕ → Read ℕ
tested_at w test total bytes = do
  n ← number_at w total bytes
  ranged total bytes (test n.0) n

-- a byte that meets a test
unfoldable pub byte_at : (ℕ → Bool) → ℕ → List ℕ → Read ℕ
byte_at test total [] = Err (CutShort (place total []))
byte_at test total (b ∷ rest) = ranged total (b ∷ rest) (test b) (b, rest)

-- so many bits, which are one field; the bits after them are zero
unfoldable pub bits_at : ℕ → ℕ → List ℕ → Read (List Bool)
bits_at n total bytes = do
  f ← field_at (packed_len n) total bytes
  ranged total bytes (is_clear (drop n (bits_in f.0))) (take n (bits_in f.0), f.1)

-- so many fields of one kind
unfoldable pub many_at : {A : Type 0} → (ℕ → List ℕ → Read A) → ℕ → ℕ → List ℕ → Read (List A)
many_at one zero total bytes = Ok ([], bytes)
many_at one (suc n) total bytes = do
  first ← one total bytes
  more ← many_at one n total first.1
  Ok (first.0 ∷ more.0, more.1)
