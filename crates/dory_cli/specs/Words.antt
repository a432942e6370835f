-- What the words after a command give: options with their values, and other words.
use Rattle.std.specs.Prelude.{ℕ, ◌==◌, ◌||◌, Bool, true, false, not, List, [], ◌∷◌, ◌++◌, length, Option, Some, None, is_some, option_and_then, if◌then◌else◌, nat_lt}
use Rattle.std.specs.List.{list_any, before_first, after_first}
use Rattle.std.specs.Str.{bytes_eq}

-- a word's bytes
abbrev pub Text : Type 0
Text = List ℕ

-- `=`
abbrev pub is_equals : ℕ → Bool
is_equals b = b == 61

-- what stands behind the first `=`, if there is one
abbrev pub attached : Text → Option Text
attached text = if list_any is_equals text then Some (after_first is_equals text) else None

-- what a word is before the options have ended: `--`; an option, with the value that is attached to
-- it; another word that begins with `-`; any other
pub data Kind : Type 0 where
  ends : Kind
  option : Text → Option Text → Kind
  refused : Kind
  plain : Kind

-- what a word is that begins with `--`, by what stands behind
abbrev pub kind_behind_dashes : Text → Kind
kind_behind_dashes [] = ends
kind_behind_dashes (b ∷ rest) = option (before_first is_equals (b ∷ rest)) (attached (b ∷ rest))

-- what a word is that begins with `-` (45), by what stands behind; `-` alone is barred before the words are read
abbrev pub kind_behind_dash : Text → Kind
kind_behind_dash [] = plain
kind_behind_dash (b ∷ rest) = if b == 45 then kind_behind_dashes rest else refused

-- what a word is before the options have ended
abbrev pub kind_of : Text → Kind
kind_of [] = plain
kind_of (b ∷ rest) = if b == 45 then kind_behind_dash rest else plain

-- what has been read: the options with their values and the other words, the option that waits for
-- its value, and whether `--` has come
pub record Reading : Type 0 where
  pub options : List (Text × Text)
  pub others : List Text
  pub waiting : Option Text
  pub ended : Bool

-- before the first word
abbrev pub nothing_read : Reading
nothing_read = record { options = []; others = []; waiting = None; ended = false }

-- the option has its value already
abbrev pub has_option : Text → List (Text × Text) → Bool
has_option name options = list_any (λ p. bytes_eq p.0 name) options

-- the name is one of these
abbrev pub has_name : Text → List Text → Bool
has_name name names = list_any (λ n. bytes_eq n name) names

-- an option with its value; none is repeated
abbrev pub with_option : Text → Text → Reading → Option Reading
with_option name value r =
    if has_option name r.options then None
    else Some (record r { options = r.options ++ (name, value) ∷ []; waiting = None })

-- another word; there are at most so many
abbrev pub with_other : ℕ → Text → Reading → Option Reading
with_other most word r =
    if nat_lt (length r.others) most then Some (record r { others = r.others ++ word ∷ [] }) else None

-- a word that begins with no `-` is the value that an option waits for, or another word
abbrev pub value_or_other : ℕ → Option Text → Text → Reading → Option Reading
value_or_other most (Some name) word r = with_option name word r
value_or_other most None word r = with_other most word r

-- an option has its value with it, or waits for it
abbrev pub named : Text → Option Text → Reading → Option Reading
named name (Some value) r = with_option name value r
named name None r = Some (record r { waiting = Some name })

-- one more word of this kind, before the options have ended; what waits for a value takes no word that begins with `-`
abbrev pub read_as : List Text → ℕ → Kind → Text → Reading → Option Reading
read_as names most ends word r = if is_some r.waiting then None else Some (record r { ended = true })
read_as names most (option name value) word r =
    if is_some r.waiting || not (has_name name names) then None else named name value r
read_as names most refused word r = None
read_as names most plain word r = value_or_other most r.waiting word r

-- one more word; behind `--` it stands as it is
unfoldable pub read_word : List Text → ℕ → Text → Reading → Option Reading
read_word names most word r =
    if r.ended then with_other most word r else read_as names most (kind_of word) word r

-- the words of a command with options of these names and at most so many other words; None where
-- they are refused
unfoldable pub read_words : List Text → ℕ → List Text → Reading → Option Reading
read_words names most [] r = if is_some r.waiting then None else Some r
read_words names most (word ∷ rest) r =
    option_and_then (read_words names most rest) (read_word names most word r)
