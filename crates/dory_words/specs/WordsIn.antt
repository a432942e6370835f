-- The words of a text as a function of it.
use Rattle.std.specs.Prelude.{ℕ, Bool, true, false, List, [], ◌∷◌, map, filter}
use Rattle.std.specs.List.{slice_split}
use Rattle.dory_base.specs.Words.{is_separator, word_of}

-- whether there are any bytes
abbrev pub has_bytes : List ℕ → Bool
has_bytes [] = false
has_bytes (b ∷ part) = true

-- the runs: of the parts into which the separators cut the text, those that aren't empty
abbrev pub runs_in : List ℕ → List (List ℕ)
runs_in text = filter has_bytes (slice_split is_separator text)

-- the word of each run
abbrev pub words_in : List ℕ → List (List ℕ)
words_in text = map word_of (runs_in text)
