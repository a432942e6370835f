-- Each text can be divided into runs and separators.
use Rattle.std.proofs.Common.{◌≡◌, ℕ, Bool, true, false, not, List, [], ◌∷◌, map, refl, ap, arith, subst}
use Rattle.std.specs.List.{AllPass}
use Rattle.std.proofs.lemmas.List.Elements.{All-cons, All-nil}
use Rattle.dory_base.specs.Words.{is_word_byte, is_separator, word_of}
use Rattle.dory_words.specs.Division.{Piece, IsPiece, ArePieces, IsDivision, AreWords}
use Rattle.dory_words.specs.WordsIn.{words_in}
use Rattle.dory_words.proofs.Cuts.{only_words}

-- separators and pieces that a text is divided into
record Divided (text : List ℕ) : Type 0 where
  gap : List ℕ
  pieces : List Piece
  division : IsDivision text gap pieces

abbrev longer : ℕ → Piece → Piece
longer b p = record { run = b ∷ p.run; gap = p.gap }

longer_is_piece : (b : ℕ) (p : Piece) → is_word_byte b ≡ true → IsPiece p → IsPiece (longer b p)
longer_is_piece b p word is = record {
  some = omega arith;
  word_bytes = All-cons (λ b. is_word_byte b ≡ true) b p.run word is.word_bytes;
  separators = is.separators;
}

longer_are_pieces : (b : ℕ) (p : Piece) (ps : List Piece) → is_word_byte b ≡ true → ArePieces (p ∷ ps) → ArePieces (longer b p ∷ ps)
longer_are_pieces b p [] word are = longer_is_piece b p word are
longer_are_pieces b p (q ∷ ps) word are = (longer_is_piece b p word are.0, are.1, are.2)

short_is_piece : (b : ℕ) (gap : List ℕ) → is_word_byte b ≡ true → AllPass is_separator gap → IsPiece (record { run = b ∷ []; gap = gap })
short_is_piece b gap word cuts = record {
  some = omega arith;
  word_bytes = All-cons (λ b. is_word_byte b ≡ true) b [] word (All-nil (λ b. is_word_byte b ≡ true));
  separators = cuts;
}

short_are_pieces : (b g : ℕ) (gap : List ℕ) (ps : List Piece) → is_word_byte b ≡ true → AllPass is_separator (g ∷ gap) → ArePieces ps
    → ArePieces (record { run = b ∷ []; gap = g ∷ gap } ∷ ps)
short_are_pieces b g gap [] word cuts are = short_is_piece b (g ∷ gap) word cuts
short_are_pieces b g gap (q ∷ ps) word cuts are = (short_is_piece b (g ∷ gap) word cuts, omega arith, are)

-- a word byte in front lengthens the first run, or begins one
with_word_byte : (b : ℕ) (text gap : List ℕ) (pieces : List Piece) → is_word_byte b ≡ true → IsDivision text gap pieces → Divided (b ∷ text)
with_word_byte b text [] [] word d = record {
  gap = [];
  pieces = record { run = b ∷ []; gap = [] } ∷ [];
  division = record {
    text_is = ap (λ (xs : List ℕ). b ∷ xs) d.text_is;
    separators = d.separators;
    are_pieces = short_is_piece b [] word d.separators;
  };
}
with_word_byte b text [] (p ∷ ps) word d = record {
  gap = [];
  pieces = longer b p ∷ ps;
  division = record {
    text_is = ap (λ (xs : List ℕ). b ∷ xs) d.text_is;
    separators = d.separators;
    are_pieces = longer_are_pieces b p ps word d.are_pieces;
  };
}
with_word_byte b text (g ∷ gap) pieces word d = record {
  gap = [];
  pieces = record { run = b ∷ []; gap = g ∷ gap } ∷ pieces;
  division = record {
    text_is = ap (λ (xs : List ℕ). b ∷ xs) d.text_is;
    separators = All-nil (λ b. is_separator b ≡ true);
    are_pieces = short_are_pieces b g gap pieces word d.separators d.are_pieces;
  };
}

-- a separator in front lengthens the first gap
with_separator : (b : ℕ) (text gap : List ℕ) (pieces : List Piece) → is_separator b ≡ true → IsDivision text gap pieces → Divided (b ∷ text)
with_separator b text gap pieces cut d = record {
  gap = b ∷ gap;
  pieces = pieces;
  division = record {
    text_is = ap (λ (xs : List ℕ). b ∷ xs) d.text_is;
    separators = All-cons (λ b. is_separator b ≡ true) b gap cut d.separators;
    are_pieces = d.are_pieces;
  };
}

with_byte : (b : ℕ) (text : List ℕ) (t : Bool) → is_word_byte b ≡ t → Divided text → Divided (b ∷ text)
with_byte b text true e d = with_word_byte b text d.gap d.pieces e d.division
with_byte b text false e d = with_separator b text d.gap d.pieces (ap not e) d.division

divided : (text : List ℕ) → Divided text
divided [] = record { gap = []; pieces = []; division = record { text_is = refl; separators = All-nil (λ b. is_separator b ≡ true); are_pieces = tt } }
divided (b ∷ text) = with_byte b text (is_word_byte b) refl (divided text)

words_of_division : (text : List ℕ) → Divided text → AreWords text (words_in text)
words_of_division text d =
    let are : AreWords text (map (λ p. word_of p.run) d.pieces) = record { gap = d.gap; pieces = d.pieces; division = d.division; words_are = refl } in
    subst (AreWords text) (only_words text (map (λ p. word_of p.run) d.pieces) are) are

-- the words of a text, as its runs and separators give them
pub words_in_are : (text : List ℕ) → AreWords text (words_in text)
words_in_are text = words_of_division text (divided text)
