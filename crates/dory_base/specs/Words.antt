-- Words: runs of word bytes, with ASCII letters in lower case.
use Rattle.std.specs.Prelude.{ℕ, ◌≡◌, ◌≤◌, ◌-◌, ◌==◌, Bool, not, ◌||◌, if◌then◌else◌, List, ◌++◌, length, map, take, replicate, position, Option, Some, None, Result, Ok, Err}
use Rattle.std.specs.Char.{is_ascii_alphanumeric, is_ascii_uppercase, to_ascii_lowercase}
use Rattle.std.specs.Int.{is_in_range}
use Rattle.std.specs.List.{AllPass}
use Rattle.dory_base.specs.declared.word.WordFault.{WordFault}
use Rattle.dory_base.specs.declared.word.WordFault.TheVariants.{Empty, NotOneWord}

-- an ASCII letter, an ASCII digit, or a byte from 0x80 to 0xFF
abbrev pub is_word_byte : ℕ → Bool
is_word_byte b = is_ascii_alphanumeric b || is_in_range 0x80 0xff b

-- any other byte, which stands between words
abbrev pub is_separator : ℕ → Bool
is_separator b = not (is_word_byte b)

-- the word that a run of word bytes is: its first 64 bytes, with ASCII letters in lower case
abbrev pub word_of : List ℕ → List ℕ
word_of run = map to_ascii_lowercase (take 64 run)

-- a word: 1 to 64 word bytes, none of them an ASCII capital
pub record IsWord (bytes : List ℕ) : Type 0 where
  pub some : 1 ≤ length bytes
  pub few : length bytes ≤ 64
  pub word_bytes : AllPass is_word_byte bytes
  pub lowered : AllPass (λ b. not (is_ascii_uppercase b)) bytes

-- what is read of bytes whose first separator stands here, or that have none
abbrev pub read_run : List ℕ → Option ℕ → Result (List ℕ) WordFault
read_run bytes (Some at) = Err (NotOneWord at)
read_run bytes None = Ok (word_of bytes)

-- what is read of bytes: nothing of no bytes, the place of the first separator, or the word that they are
abbrev pub read_word : List ℕ → Result (List ℕ) WordFault
read_word bytes = if length bytes == 0 then Err Empty else read_run bytes (position is_separator bytes)

-- the array that a word is kept in: the word, and zeros after it up to 64 bytes
pub record IsKept (bytes : List ℕ) (len : ℕ) : Type 0 where
  pub room : length bytes ≡ 64
  pub fits : len ≤ 64
  pub padded : take len bytes ++ replicate (64 - len) 0 ≡ bytes
  pub word : IsWord (take len bytes)
