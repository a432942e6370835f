-- The values of options, in the order in which they are checked.
use Rattle.std.specs.Prelude.{ℕ, List, Option, Some, None, Result, Ok, Err}
use Rattle.hex.specs.Hex.{decode_sized}
use Rattle.hex.specs.declared.error.FromHexError.{FromHexError}
use Rattle.dory_base.specs.Words.{read_word}
use Rattle.dory_base.specs.declared.word.WordFault.{WordFault}
use Rattle.dory_io.specs.Numbers.{number_of}
use Rattle.dory_cli.specs.Commands.{Texts}
use Rattle.dory_cli.specs.Words.{Text}
use Rattle.dory_cli.specs.declared.fault.NumberField.{NumberField}
use Rattle.dory_cli.specs.declared.fault.NumberField.TheVariants as field
use Rattle.dory_cli.specs.declared.fault.UsageFault.{UsageFault}
use Rattle.dory_cli.specs.declared.fault.UsageFault.TheVariants as fault
use Rattle.dory_cli.specs.declared.line.Line.{Line}
use Rattle.dory_cli.specs.declared.line.Line.TheVariants.{Init}

infixl 10 ◌>>=◌
-- the first fault ends the reading
abbrev pub ◌>>=◌ : {A B : Type 0} → Result A UsageFault → (A → Result B UsageFault) → Result B UsageFault
(Ok x) >>= f = f x
(Err e) >>= f = Err e

-- a number, or that it is wrong
abbrev pub number_or : NumberField → Option ℕ → Result ℕ UsageFault
number_or f (Some n) = Ok n
number_or f None = Err (fault.Number f)

-- the number that a text writes, within its range
abbrev pub number_at : NumberField → ℕ → ℕ → Text → Result ℕ UsageFault
number_at f least most text = number_or f (number_of least most text)

-- the bytes, or that the master key is wrong
abbrev pub master_or : Result (List ℕ) FromHexError → Result (List ℕ) UsageFault
master_or (Ok bytes) = Ok bytes
master_or (Err e) = Err fault.Master

-- 64 hexadecimal digits, as 32 bytes
abbrev pub master_of : Text → Result (List ℕ) UsageFault
master_of text = master_or (decode_sized text 32)

-- the word, or that it is none
abbrev pub word_or : Result (List ℕ) WordFault → Result (List ℕ) UsageFault
word_or (Ok word) = Ok word
word_or (Err e) = Err fault.Word

-- the word that the text is, with ASCII letters lowered and cut to 64 bytes
abbrev pub searched_of : Text → Result (List ℕ) UsageFault
searched_of text = word_or (read_word text)

-- 1 where it is not given
abbrev pub serial_of : Option Text → Result ℕ UsageFault
serial_of None = Ok 1
serial_of (Some text) = number_at field.Serial 1 18446744073709551615 text

-- the values of `init`, of which the first bad one is told
unfoldable pub init_values_of : Texts → Result Line UsageFault
init_values_of t = do
  folder ← number_at field.Folder 0 4294967295 t.folder
  member ← number_at field.Member 0 63 t.member
  depth ← number_at field.Depth 8 11 t.depth
  probes ← number_at field.Probes 1 8 t.probes
  master ← master_of t.master
  serial ← serial_of t.serial
  Ok (Init (record { 0 = folder }) (record { 0 = member }) (record { depth = depth; probes = probes }) master serial)
