-- Where the separators cut a text, and that its words are those of any division of it.
use Rattle.std.proofs.Common.{◌≡◌, ℕ, ◌≤◌, Bool, true, false, not, List, [], ◌∷◌, ◌++◌, length, map, refl, ap, sym, ◌∙◌, arith, filter}
use Rattle.std.specs.List.{AllPass, All, slice_split}
use Rattle.std.proofs.lemmas.List.{append_assoc, append-nil, map-append}
use Rattle.std.proofs.lemmas.List.Elements.{All-head, All-tail, All-weaker}
use Rattle.std.proofs.lemmas.List.Splits.{slice_split-cons_yes, slice_split_none, slice_split_at}
use Rattle.dory_base.specs.Words.{is_word_byte, is_separator, word_of}
use Rattle.dory_words.specs.Division.{Piece, ArePieces, joined_bytes, IsDivision, AreWords}
use Rattle.dory_words.specs.WordsIn.{has_bytes, runs_in, words_in}

-- ---- runs without separators

no_cut : (b : Bool) → b ≡ true → not b ≡ false
no_cut b e = ap not e

pub uncut : (run : List ℕ) → AllPass is_word_byte run → All (λ b. is_separator b ≡ false) run
uncut run all = All-weaker (λ b. is_word_byte b ≡ true) (λ b. is_separator b ≡ false) (λ b h. no_cut (is_word_byte b) h) run all

kept_first : (run : List ℕ) (parts : List (List ℕ)) → filter has_bytes (run ∷ parts) ≡ filter has_bytes (run ∷ []) ++ filter has_bytes parts
kept_first [] parts = refl
kept_first (b ∷ run) parts = refl

-- a separator cuts the text in two
pub runs_cut : (run : List ℕ) (y : ℕ) (rest : List ℕ) → AllPass is_word_byte run → is_separator y ≡ true → runs_in (run ++ y ∷ rest) ≡ runs_in run ++ runs_in rest
runs_cut run y rest all cut =
    ap (filter has_bytes) (slice_split_at is_separator run y rest (uncut run all) cut)
    ∙ kept_first run (slice_split is_separator rest)
    ∙ ap (λ (parts : List (List ℕ)). filter has_bytes parts ++ runs_in rest) (sym (slice_split_none is_separator run (uncut run all)))

pub words_cut : (run : List ℕ) (y : ℕ) (rest : List ℕ) → AllPass is_word_byte run → is_separator y ≡ true → words_in (run ++ y ∷ rest) ≡ words_in run ++ words_in rest
words_cut run y rest all cut = ap (map word_of) (runs_cut run y rest all cut) ∙ map-append word_of (runs_in run) (runs_in rest)

-- a run is one word
pub run_alone : (run : List ℕ) → 1 ≤ length run → AllPass is_word_byte run → runs_in run ≡ run ∷ []
run_alone run some all = ap (filter has_bytes) (slice_split_none is_separator run (uncut run all)) ∙ kept_alone run some
  where
    kept_alone : (run : List ℕ) → 1 ≤ length run → filter has_bytes (run ∷ []) ≡ run ∷ []
    kept_alone [] some = absurd (omega arith)
    kept_alone (b ∷ run) some = refl

pub word_alone : (run : List ℕ) → 1 ≤ length run → AllPass is_word_byte run → words_in run ≡ word_of run ∷ []
word_alone run some all = ap (map word_of) (run_alone run some all)

-- ---- any division has the same runs

-- separators before a text
gap_before : (gap rest : List ℕ) → AllPass is_separator gap → runs_in (gap ++ rest) ≡ runs_in rest
gap_before [] rest all = refl
gap_before (y ∷ gap) rest all =
    ap (filter has_bytes) (slice_split-cons_yes is_separator y (gap ++ rest) (All-head (λ b. is_separator b ≡ true) y gap all))
    ∙ gap_before gap rest (All-tail (λ b. is_separator b ≡ true) y gap all)

-- a run before a text that begins with a separator, or is empty
run_before : (run gap rest : List ℕ) → 1 ≤ length run → AllPass is_word_byte run → AllPass is_separator gap → 1 ≤ length gap
    → runs_in (run ++ (gap ++ rest)) ≡ run ∷ runs_in rest
run_before run [] rest some all cuts more = absurd (omega arith)
run_before run (y ∷ gap) rest some all cuts more =
    runs_cut run y (gap ++ rest) all (All-head (λ b. is_separator b ≡ true) y gap cuts)
    ∙ ap (λ (runs : List (List ℕ)). runs ++ runs_in (gap ++ rest)) (run_alone run some all)
    ∙ ap (λ (runs : List (List ℕ)). run ∷ runs) (gap_before gap rest (All-tail (λ b. is_separator b ≡ true) y gap cuts))

run_last : (run gap : List ℕ) → 1 ≤ length run → AllPass is_word_byte run → AllPass is_separator gap → runs_in (run ++ gap) ≡ run ∷ []
run_last run [] some all cuts = ap runs_in (append-nil run) ∙ run_alone run some all
run_last run (y ∷ gap) some all cuts =
    ap (λ (xs : List ℕ). runs_in (run ++ xs)) (sym (append-nil (y ∷ gap)))
    ∙ run_before run (y ∷ gap) [] some all cuts (omega arith)

runs_of_pieces : (pieces : List Piece) → ArePieces pieces → runs_in (joined_bytes pieces) ≡ map (λ p. p.run) pieces
runs_of_pieces [] are = refl
runs_of_pieces (p ∷ []) are =
    ap runs_in (append-nil (p.run ++ p.gap)) ∙ run_last p.run p.gap are.some are.word_bytes are.separators
runs_of_pieces (p ∷ q ∷ ps) are =
    ap runs_in (append_assoc p.run p.gap (joined_bytes (q ∷ ps)))
    ∙ run_before p.run p.gap (joined_bytes (q ∷ ps)) are.0.some are.0.word_bytes are.0.separators are.1
    ∙ ap (λ (runs : List (List ℕ)). p.run ∷ runs) (runs_of_pieces (q ∷ ps) are.2)

pub runs_of_division : (text gap : List ℕ) (pieces : List Piece) → IsDivision text gap pieces → runs_in text ≡ map (λ p. p.run) pieces
runs_of_division text gap pieces d = ap runs_in d.text_is ∙ gap_before gap (joined_bytes pieces) d.separators ∙ runs_of_pieces pieces d.are_pieces

map_map : (pieces : List Piece) → map word_of (map (λ p. p.run) pieces) ≡ map (λ p. word_of p.run) pieces
map_map [] = refl
map_map (p ∷ pieces) = ap (λ (ws : List (List ℕ)). word_of p.run ∷ ws) (map_map pieces)

-- a text has one list of words
pub only_words : (text : List ℕ) (words : List (List ℕ)) → AreWords text words → words ≡ words_in text
only_words text words are =
    are.words_are ∙ sym (map_map are.pieces) ∙ ap (map word_of) (sym (runs_of_division text are.gap are.pieces are.division))
