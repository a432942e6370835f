-- A text that is read to the end of its input.
use Rattle.std.specs.Prelude.{ℕ, ◌≡◌, ◌≤◌, ◌<◌, ⊤, List, length, Option, Some, None, Vec, Result, Ok, Err}
use Rattle.std.specs.declared.alloc.Global.{Global}
use Rattle.dory_io.specs.Bytes.{BytesRead, IsOver}
use Rattle.dory_client.specs.declared.input.InputEnd.{InputEnd}
use Rattle.dory_client.specs.declared.input.InputEnd.TheVariants.{Fault, Long, NoMemory}

-- the most bytes of a text
abbrev pub text_limit : ℕ
text_limit = 8388608

-- the bytes that came are a text where the input is over and they are no more than a text has, and are too long where they
-- are more
abbrev pub IsTextOf : List ℕ → Option (List ℕ) → Option (List ℕ) → Result (Vec ℕ Global) InputEnd → Type 0
IsTextOf bytes before after (Ok text) = (text.items ≡ bytes) × (length bytes ≤ text_limit) × IsOver before after
IsTextOf bytes before after (Err Long) = text_limit < length bytes
IsTextOf bytes before after (Err Fault) = length bytes ≤ text_limit
IsTextOf bytes before after (Err NoMemory) = length bytes ≤ text_limit

-- what a reading of a text makes of its input
abbrev pub IsTextRead : Option (List ℕ) → Option (List ℕ) → ℕ → ℕ → Result (Vec ℕ Global) InputEnd → Type 0
IsTextRead before after given counted result = (bytes : List ℕ) × BytesRead before after given counted bytes × IsTextOf bytes before after result

-- the bytes left, where they are told, are more than a text has
abbrev pub AreTooMany : Option (List ℕ) → Type 0
AreTooMany None = ⊤
AreTooMany (Some bytes) = text_limit < length bytes

-- why what came of an input is no text
abbrev pub IsNoText : Option (List ℕ) → Option (List ℕ) → ℕ → ℕ → InputEnd → Type 0
IsNoText before after given counted e = IsTextRead before after given counted (Err e)
