-- What a command line says, or the first thing that is wrong with it.
use Rattle.std.specs.Prelude.{ℕ, ◌≡◌, ◌≤◌, length, List, [], ◌∷◌, Option, Some, None, Result, Ok, Err, codes, if◌then◌else◌}
use Rattle.std.specs.List.{list_any}
use Rattle.std.specs.Str.{bytes_eq}
use Rattle.dory_base.specs.Dims.{Dims, IsDims}
use Rattle.dory_base.specs.Words.{IsWord}
use Rattle.dory_base.specs.declared.ids.DocId.{DocId}
use Rattle.dory_cli.specs.Words.{Text}
use Rattle.dory_cli.specs.Commands.{init_texts_of, nothing_of, word_of}
use Rattle.dory_cli.specs.Barred.{is_barred}
use Rattle.dory_cli.specs.Values.{◌>>=◌, init_values_of, number_at, searched_of}
use Rattle.dory_cli.specs.declared.fault.NumberField.TheVariants as field
use Rattle.dory_cli.specs.declared.fault.UsageFault.{UsageFault}
use Rattle.dory_cli.specs.declared.fault.UsageFault.TheVariants as fault
use Rattle.dory_cli.specs.declared.line.Line.{Line}
use Rattle.dory_cli.specs.declared.line.Line.TheVariants as line
use Rattle.dory_cli.specs.declared.reading.Name.{Name}
use Rattle.dory_cli.specs.declared.reading.Name.TheVariants as name

-- memory ran out, or reading fails in this way
abbrev pub Fails : {Y : Type 0} → UsageFault → Result Y UsageFault → Type 0
Fails fault.NoMemory read = Unit {0}
Fails f read = read ≡ Err f

-- unless memory ran out, it is what reading gives
abbrev pub Gives : {Y : Type 0} → Result Y UsageFault → Result Y UsageFault → Type 0
Gives (Ok x) read = read ≡ Ok x
Gives (Err e) read = Fails e read

-- the command that a word names
abbrev pub name_of : Text → Option Name
name_of word =
    if bytes_eq word (codes "init") then Some name.Init
    else if bytes_eq word (codes "post") then Some name.Post
    else if bytes_eq word (codes "remove") then Some name.Remove
    else if bytes_eq word (codes "search") then Some name.Search
    else if bytes_eq word (codes "resume") then Some name.Resume
    else if bytes_eq word (codes "latest") then Some name.Latest
    else if bytes_eq word (codes "rotate") then Some name.Rotate
    else None

-- words that are refused are the fault Words
abbrev pub taken : {A B : Type 0} → Option A → (A → Result B UsageFault) → Result B UsageFault
taken None next = Err fault.Words
taken (Some x) next = next x

-- what the words of `init` say
abbrev pub init_of : List Text → Result Line UsageFault
init_of words = taken (init_texts_of words) init_values_of

-- the document of `post` and `remove`
abbrev pub doc_of : List Text → Result DocId UsageFault
doc_of words = taken (word_of words) (λ text. number_at field.Doc 0 4294967295 text >>= λ n. Ok (record { 0 = n }))

-- the word of `search`
abbrev pub search_of : List Text → Result (List ℕ) UsageFault
search_of words = taken (word_of words) searched_of

-- a command that has no words of its own
abbrev pub nothing_or : Line → List Text → Result Line UsageFault
nothing_or l words = taken (nothing_of words) (λ _. Ok l)

-- what the words behind a command say
abbrev pub line_with : Name → List Text → Result Line UsageFault
line_with name.Init words = init_of words
line_with name.Post words = doc_of words >>= λ d. Ok (line.Post d)
line_with name.Remove words = doc_of words >>= λ d. Ok (line.Remove d)
line_with name.Search words = search_of words >>= λ w. Ok (line.Search w)
line_with name.Resume words = nothing_or line.Resume words
line_with name.Latest words = nothing_or line.Latest words
line_with name.Rotate words = nothing_or line.Rotate words

-- an unknown command comes before all else, and a barred word before the words are read
abbrev pub line_named : Option Name → List Text → Result Line UsageFault
line_named None words = Err fault.Unknown
line_named (Some n) words = if list_any is_barred words then Err fault.Words else line_with n words

-- what the words say: the first is the command
abbrev pub line_of : List Text → Result Line UsageFault
line_of [] = Err fault.NoCommand
line_of (command ∷ words) = line_named (name_of command) words

-- the ranges of the values of `init`
pub record IsInit (folder member : ℕ) (shape : Dims) (master : List ℕ) (serial : ℕ) : Type 0 where
  pub folders : folder ≤ 4294967295
  pub members : member ≤ 63
  pub dims : IsDims shape
  pub bytes : length master ≡ 32
  pub least : 1 ≤ serial
  pub most : serial ≤ 18446744073709551615

-- the ranges of a command's values
abbrev pub IsLine : Line → Type 0
IsLine (line.Init folder member shape master serial) = IsInit folder.0 member.0 shape master serial
IsLine (line.Post doc) = doc.0 ≤ 4294967295
IsLine (line.Remove doc) = doc.0 ≤ 4294967295
IsLine (line.Search word) = IsWord word
IsLine l = Unit {0}
