-- What the words behind each command give: its values, as they are written.
use Rattle.std.specs.Prelude.{◌≡◌, List, [], ◌∷◌, Option, Some, None, Result, Ok, Err, codes, find, option_map, option_and_then, slice_get, unwrap_or, if◌then◌else◌}
use Rattle.std.specs.List.{AllByRecursion, list_all}
use Rattle.std.specs.Str.{IsUtf8, bytes_eq}
use Rattle.dory_cli.specs.Words.{Text, Reading, nothing_read, has_option, read_words}
use Rattle.dory_cli.specs.declared.fault.UsageFault.{UsageFault}
use Rattle.dory_cli.specs.declared.fault.UsageFault.TheVariants as fault
use Rattle.dory_cli.specs.declared.init.InitTexts.{InitTexts}

-- the value of an option
abbrev pub value_of : Text → List (Text × Text) → Option Text
value_of name options = option_map (λ p. p.1) (find (λ p. bytes_eq p.0 name) options)

-- the options where those of these names are among them
abbrev pub with_needed : List Text → Reading → Option (List (Text × Text))
with_needed needed r =
    if list_all (λ name. has_option name r.options) needed then Some r.options else None

-- the options that `init` needs
abbrev pub init_needs : List Text
init_needs = codes "folder" ∷ codes "member" ∷ codes "depth" ∷ codes "probes" ∷ codes "master" ∷ []

-- the options that `init` may have
abbrev pub init_names : List Text
init_names = codes "folder" ∷ codes "member" ∷ codes "depth" ∷ codes "probes" ∷ codes "master" ∷ codes "serial" ∷ []

-- the options of `init`, where the words have all that it needs
unfoldable pub init_options : List Text → Option (List (Text × Text))
init_options words = option_and_then (with_needed init_needs) (read_words init_names 0 words nothing_read)

-- the values of `init`, as they are written
pub record Texts : Type 0 where
  pub folder : Text
  pub member : Text
  pub depth : Text
  pub probes : Text
  pub master : Text
  pub serial : Option Text

-- the value of an option that is needed
abbrev pub text_of : Text → List (Text × Text) → Text
text_of name options = unwrap_or (value_of name options) []

-- the values of the options
abbrev pub texts_of : List (Text × Text) → Texts
texts_of o = record {
  folder = text_of (codes "folder") o;
  member = text_of (codes "member") o;
  depth = text_of (codes "depth") o;
  probes = text_of (codes "probes") o;
  master = text_of (codes "master") o;
  serial = value_of (codes "serial") o;
}

-- what the code keeps of them
abbrev pub view : InitTexts → Texts
view t = record {
  folder = t.folder.now;
  member = t.member.now;
  depth = t.depth.now;
  probes = t.probes.now;
  master = t.master.now;
  serial = option_map (λ s. s.now) t.serial;
}

-- the values of `init`, where the words are those that it takes
abbrev pub init_texts_of : List Text → Option Texts
init_texts_of words = option_map texts_of (init_options words)

-- each word is text in UTF-8
abbrev pub AreTexts : List Text → Type 0
AreTexts words = AllByRecursion IsUtf8 words

-- a command with no words of its own, where there are none
unfoldable pub nothing_of : List Text → Option (List (Text × Text))
nothing_of words = option_and_then (with_needed []) (read_words [] 0 words nothing_read)

-- words, where there are any
abbrev pub some_words : List Text → Option (List Text)
some_words [] = None
some_words (word ∷ rest) = Some (word ∷ rest)

-- the word of a command with one, as a list
unfoldable pub words_of : List Text → Option (List Text)
words_of words = option_and_then (λ r. some_words r.others) (read_words [] 1 words nothing_read)

-- the word of a command with one, where there is one
abbrev pub word_of : List Text → Option Text
word_of words = option_and_then (λ o. slice_get o 0) (words_of words)

-- memory ran out, or the words are refused
abbrev pub FailsAs : {Y : Type 0} → UsageFault → Option Y → Type 0
FailsAs fault.NoMemory read = Unit {0}
FailsAs fault.Words read = read ≡ None
FailsAs _ read = ⊥

-- unless memory ran out, it is what the words give, seen by `same`
abbrev pub GivesBy : {X Y : Type 0} → (X → Y → Type 0) → Result X UsageFault → Option Y → Type 0
GivesBy {X} {Y} same (Ok x) read = (y : Y) × (read ≡ Some y) × same x y
GivesBy same (Err e) read = FailsAs e read
