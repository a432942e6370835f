-- What a server's command line says, or the first word that is absent or not of its form.
use Rattle.std.specs.Prelude.{ℕ, ◌≡◌, ◌+◌, List, [], ◌∷◌, drop, codes, slice_get, Option, Some, None, option_and_then, Result, Ok, Err, if◌then◌else◌}
use Rattle.std.specs.Str.{bytes_eq}
use Rattle.dory_base.specs.declared.ids.Side.{Side}
use Rattle.dory_base.specs.declared.ids.Side.TheVariants.{Lead, Follow}
use Rattle.dory_io.specs.Numbers.{number_of}
use Rattle.dory_io.specs.Address.{address_of}
use Rattle.dory_domain.specs.declared.config.FolderConfig.{FolderConfig}
use Rattle.dory_server.specs.Folder.{folder_of}
use Rattle.dory_server.specs.declared.line.ServerLine.{ServerLine}
use Rattle.dory_server.specs.declared.line.ServerWords.{ServerWords}
use Rattle.dory_server.specs.declared.line.ServerWords.TheVariants.{At, NoMemory}

-- a role as it is named
abbrev pub named_role : List ℕ → Option Side
named_role word =
    if bytes_eq word (codes "lead") then Some Lead
    else if bytes_eq word (codes "follow") then Some Follow
    else None

-- a number of seats
abbrev pub seats_of : List ℕ → Option ℕ
seats_of word = number_of 0 4294967295 word

infixl 10 ◌>>=◌
-- the first word that is absent or not of its form ends the reading
abbrev pub ◌>>=◌ : {A B : Type 0} → Result A ServerWords → (A → Result B ServerWords) → Result B ServerWords
(Ok x) >>= f = f x
(Err e) >>= f = Err e

-- what a word says, or that the word at this place doesn't say it
abbrev pub or_at : {A : Type 0} → ℕ → Option A → Result A ServerWords
or_at at (Some x) = Ok x
or_at at None = Err (At at)

-- what the word at a place says, by its form
abbrev pub word_at : {A : Type 0} → ℕ → (List ℕ → Option A) → List (List ℕ) → Result A ServerWords
word_at at form words = or_at at (option_and_then form (slice_get words at))

-- the folders that the words name, of which the first stands at this place
abbrev pub folders_from : ℕ → List (List ℕ) → Result (List FolderConfig) ServerWords
folders_from at [] = Ok []
folders_from at (word ∷ words) =
    or_at at (folder_of word) >>= λ folder. folders_from (at + 1) words >>= λ folders. Ok (folder ∷ folders)

-- one folder or more
abbrev pub some_folders : ℕ → List (List ℕ) → Result (List FolderConfig) ServerWords
some_folders at [] = Err (At at)
some_folders at (word ∷ words) = folders_from at (word ∷ words)

-- a role, an address, a number of seats, and one folder or more
unfoldable pub server_line_of : List (List ℕ) → Result ServerLine ServerWords
server_line_of words = do
  role ← word_at 0 named_role words
  address ← word_at 1 address_of words
  seats ← word_at 2 seats_of words
  folders ← some_folders 3 (drop 3 words)
  Ok (record { config = record { role = role; folders = folders; seats = seats }; address = address })

-- memory ran out, or reading fails in this way
abbrev pub Fails : {Y : Type 0} → ServerWords → Result Y ServerWords → Type 0
Fails NoMemory read = Unit {0}
Fails (At at) read = read ≡ Err (At at)

-- unless memory ran out, it is what reading gives
abbrev pub Gives : {Y : Type 0} → Result Y ServerWords → Result Y ServerWords → Type 0
Gives (Ok x) read = read ≡ Ok x
Gives (Err e) read = Fails e read
