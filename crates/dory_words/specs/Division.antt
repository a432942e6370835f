-- How a text is divided into runs of word bytes and the separators around them.
use Rattle.std.specs.Prelude.{ℕ, ◌≡◌, ◌≤◌, List, [], ◌∷◌, ◌++◌, length, map}
use Rattle.std.specs.List.{AllPass, flat_map}
use Rattle.dory_base.specs.Words.{is_word_byte, is_separator, word_of}

-- a run and the separators after it
pub record Piece : Type 0 where
  pub run : List ℕ
  pub gap : List ℕ

-- a run has one word byte or more, and nothing else; after it stand separators only
pub record IsPiece (p : Piece) : Type 0 where
  pub some : 1 ≤ length p.run
  pub word_bytes : AllPass is_word_byte p.run
  pub separators : AllPass is_separator p.gap

-- pieces in order: a separator or more stands between two runs, and after the last run there may be none
abbrev pub ArePieces : List Piece → Type 0
ArePieces [] = Unit {0}
ArePieces (p ∷ []) = IsPiece p
ArePieces (p ∷ q ∷ ps) = IsPiece p × (1 ≤ length p.gap) × ArePieces (q ∷ ps)

-- the bytes of pieces, one after another
abbrev pub joined_bytes : List Piece → List ℕ
joined_bytes pieces = flat_map (λ p. p.run ++ p.gap) pieces

-- the text is separators, if any, and then these pieces: each run is as long as it can be
pub record IsDivision (text gap : List ℕ) (pieces : List Piece) : Type 0 where
  pub text_is : text ≡ gap ++ joined_bytes pieces
  pub separators : AllPass is_separator gap
  pub are_pieces : ArePieces pieces

-- the words of the text: of each of its runs in order, the word that the run is
pub record AreWords (text : List ℕ) (words : List (List ℕ)) : Type 0 where
  pub gap : List ℕ
  pub pieces : List Piece
  pub division : IsDivision text gap pieces
  pub words_are : words ≡ map (λ p. word_of p.run) pieces
