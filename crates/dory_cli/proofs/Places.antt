-- How clap's walk goes, for a command with one word.
use Rattle.std.proofs.Common.{◌≡◌, ◌∙◌, ℕ, Bool, true, false, List, [], ◌∷◌, map, fold, Option, Some, None, option_and_then, refl, sym, ap, subst, slice_get}
use Rattle.std.specs.List.{AllByRecursion}
use Rattle.std.specs.Str.{bytes_eq, chars}
use Rattle.clap.specs.Lexer.{long_of, short_of}
use Rattle.clap.specs.Kinds.{Kinds, or_else}
use Rattle.clap.specs.Walk.{Held, Row, Rule, Walk, arg_by_id, arg_by_index, arg_by_long, arg_by_short, idle, nothing_held, settled, walk_from, walked}
use Rattle.clap.specs.Faults.{flags_fault, settle_fault, walk_fault, turn_fault}
use Rattle.clap.specs.Simple.{Shape, new_rule}
use Rattle.clap.specs.declared.builder.action.ArgAction.TheVariants.{Set}
use Rattle.clap.specs.declared.builder.value_parser.ValueParser.TheVariants as vp
use Rattle.dory_cli.specs.Words.{Kind, Reading, Text, ends, kind_of, nothing_read, option, plain, read_as, read_word, read_words, refused}
use Rattle.dory_cli.proofs.Walks.{IsSpelled, Lexes, at, fails, fails_first, first_char, held_at, lexes, or_else-assoc, row_of_option}

-- the word as clap builds it
abbrev pub word_rule : Text → Rule
word_rule name = record (new_rule name) {
  index = Some 1;
  action = Some Set;
  range = Some (record { start_inclusive = 1; end_inclusive = 1 });
  parser = Some vp.String;
  required = true;
}

-- the rows of the words that are no options
abbrev pub rows_of_others : Text → List Text → List Row
rows_of_others name = map (λ w. row_of_option (name, w))

-- the word that is held
abbrev pending_of : Text → List Text → Option (Text × List Text)
pending_of name [] = None
pending_of name (w ∷ rest) = Some (name, w ∷ [])

-- the place of the next word
abbrev place_of : List Text → ℕ
place_of [] = 1
place_of (w ∷ rest) = 2

module _ (s : Shape) (name : Text) (over : s.args_override_self ≡ false) (leaf : s.is_leaf ≡ true)
    (no_long : (x : Text) → arg_by_long s.rules x ≡ None) (by_id : arg_by_id s.rules name ≡ Some (word_rule name))
    (no_short : (x : ℕ) → arg_by_short s.rules x ≡ None)
    (first_place : arg_by_index s.rules 1 ≡ Some (word_rule name)) (no_second : arg_by_index s.rules 2 ≡ None) where
  abbrev stop : Walk → List Text → Held
  stop w ws = (fold (walked s.rules []) w ws).held

  abbrev pub total : Walk → List Text → Kinds
  total w ws = or_else (walk_fault s [] w ws) (settle_fault s.rules s.args_override_self (stop w ws))

  abbrev pub ReadsAs : Walk → List Text → Option Reading → Type 0
  ReadsAs w ws None = fails (total w ws) ≡ true
  ReadsAs w ws (Some r) = (total w ws ≡ []) × ((settled s.rules (stop w ws)).rows ≡ rows_of_others name r.others)

  first : (w : Walk) (word : Text) (rest : List Text) → total w (word ∷ rest) ≡ or_else (turn_fault s [] w word) (total (walked s.rules [] w word) rest)
  unfolding walk_fault
  first w word rest = or_else-assoc (turn_fault s [] w word) (walk_fault s [] (walked s.rules [] w word) rest) _

  breaks : (w : Walk) (word : Text) (rest : List Text) → fails (turn_fault s [] w word) ≡ true → fails (total w (word ∷ rest)) ≡ true
  breaks w word rest e = rw first (fails_first (turn_fault s [] w word) _ e)

  moves : (w w' : Walk) (word : Text) (rest : List Text) (r : Option Reading) → turn_fault s [] w word ≡ [] → walked s.rules [] w word ≡ w' → ReadsAs w' rest r → ReadsAs w (word ∷ rest) r
  moves w w' word rest None e is h = rw (first, e, is) h
  moves w w' word rest (Some r) e is h = (first w word rest ∙ rw (e, is) h.0, ap (λ v. (settled s.rules (stop v rest)).rows) is ∙ h.1)

  -- where the walk stands with no word, and with one
  abbrev none : Bool → Walk
  none ended = at [] None idle 1 ended

  abbrev one : Text → Bool → Walk
  one word ended = at [] (Some (name, word ∷ [])) idle 2 ended

  ends_turn : (p : Option (Text × List Text)) (k : ℕ) → (turn_fault s [] (at [] p idle k false) (45 ∷ 45 ∷ []) ≡ []) × (walked s.rules [] (at [] p idle k false) (45 ∷ 45 ∷ []) ≡ at [] p idle k true)
  unfolding walked
  ends_turn p k = (refl, refl)

  option_turn : (p : Option (Text × List Text)) (k : ℕ) (word x : Text) (v : Option Text) → bytes_eq word (45 ∷ 45 ∷ []) ≡ false → long_of word ≡ Some (x, v)
      → fails (turn_fault s [] (at [] p idle k false) word) ≡ true
  option_turn p k word x v other long = let u = no_long x in rw (other, long, u) refl

  short_turn : (p : Option (Text × List Text)) (k : ℕ) (word : Text) (b : ℕ) (rest : Text)
      → bytes_eq word (45 ∷ 45 ∷ []) ≡ false → long_of word ≡ None → short_of word ≡ Some (b ∷ rest) → (x : ℕ) → slice_get (chars (b ∷ rest)) 0 ≡ Some x
      → fails (turn_fault s [] (at [] p idle k false) word) ≡ true
  unfolding flags_fault
  short_turn p k word b rest other long short x some = let u = no_short x in rw (other, long, short, some, u) refl

  -- the word
  word_turn : (word : Text) → bytes_eq word (45 ∷ 45 ∷ []) ≡ false → long_of word ≡ None → short_of word ≡ None
      → (turn_fault s [] (none false) word ≡ []) × (walked s.rules [] (none false) word ≡ one word false)
  unfolding walked
  word_turn word other long short = (rw (other, long, short, first_place) refl, rw (other, long, short, first_place) refl)

  word_ended : (word : Text) → (turn_fault s [] (none true) word ≡ []) × (walked s.rules [] (none true) word ≡ one word true)
  unfolding walked
  word_ended word = (rw first_place refl, rw first_place refl)

  -- one more
  stray_turn : (word v : Text) → bytes_eq word (45 ∷ 45 ∷ []) ≡ false → long_of word ≡ None → short_of word ≡ None → fails (turn_fault s [] (one v false) word) ≡ true
  stray_turn word v other long short = rw (other, long, short, no_second, leaf) refl

  stray_ended : (word v : Text) → fails (turn_fault s [] (one v true) word) ≡ true
  stray_ended word v = rw (no_second, leaf) refl

  abbrev reading : List Text → Bool → Reading
  reading others ended = record { options = []; others = others; waiting = None; ended = ended }

  one_settles : (w : Text) → settle_fault s.rules s.args_override_self (held_at [] (Some (name, w ∷ []))) ≡ []
  one_settles w = rw by_id refl

  one_rows : (w : Text) → (settled s.rules (held_at [] (Some (name, w ∷ [])))).rows ≡ rows_of_others name (w ∷ [])
  one_rows w = rw by_id refl

  one_ended : (ws : List Text) (v : Text) → ReadsAs (one v true) ws (read_words [] 1 ws (reading (v ∷ []) true))
  unfolding walk_fault read_words read_word
  one_ended [] v = (one_settles v, one_rows v)
  one_ended (w ∷ ws) v = breaks (one v true) w ws (stray_ended w v)

  none_ended : (ws : List Text) → ReadsAs (none true) ws (read_words [] 1 ws (reading [] true))
  unfolding walk_fault read_words read_word
  none_ended [] = (refl, refl)
  none_ended (w ∷ ws) = let t = word_ended w in moves (none true) (one w true) w ws _ t.0 t.1 (one_ended ws w)

  one_goes : (ws : List Text) (v : Text) → AllByRecursion IsSpelled ws → ReadsAs (one v false) ws (read_words [] 1 ws (reading (v ∷ []) false))
  unfolding walk_fault read_words read_word
  one_goes [] v all = (one_settles v, one_rows v)
  one_goes (w ∷ ws) v all = go (kind_of w) (lexes w)
    where
      go : (kind : Kind) → Lexes w kind → ReadsAs (one v false) (w ∷ ws) (option_and_then (read_words [] 1 ws) (read_as [] 1 kind w (reading (v ∷ []) false)))
      go ends e =
          let t = ends_turn (Some (name, v ∷ [])) 2 in
          subst (λ u. ReadsAs (one v false) (u ∷ ws) (read_words [] 1 ws (reading (v ∷ []) true))) (sym e)
          (moves (one v false) (one v true) (45 ∷ 45 ∷ []) ws _ t.0 t.1 (one_ended ws v))
      go (option x value) e = breaks (one v false) w ws (option_turn (Some (name, v ∷ [])) 2 w x value e.0 e.1)
      go refused e =
          let c = first_char e.2.0 e.2.1 (subst IsSpelled e.2.3 all.0) in
          breaks (one v false) w ws (short_turn (Some (name, v ∷ [])) 2 w e.2.0 e.2.1 e.0 e.1 e.2.2 c.0 c.1)
      go plain e = breaks (one v false) w ws (stray_turn w v e.0 e.1 e.2)

  none_goes : (ws : List Text) → AllByRecursion IsSpelled ws → ReadsAs (none false) ws (read_words [] 1 ws (reading [] false))
  unfolding walk_fault read_words read_word
  none_goes [] all = (refl, refl)
  none_goes (w ∷ ws) all = go (kind_of w) (lexes w)
    where
      go : (kind : Kind) → Lexes w kind → ReadsAs (none false) (w ∷ ws) (option_and_then (read_words [] 1 ws) (read_as [] 1 kind w (reading [] false)))
      go ends e =
          let t = ends_turn None 1 in
          subst (λ u. ReadsAs (none false) (u ∷ ws) (read_words [] 1 ws (reading [] true))) (sym e)
          (moves (none false) (none true) (45 ∷ 45 ∷ []) ws _ t.0 t.1 (none_ended ws))
      go (option x value) e = breaks (none false) w ws (option_turn None 1 w x value e.0 e.1)
      go refused e =
          let c = first_char e.2.0 e.2.1 (subst IsSpelled e.2.3 all.0) in
          breaks (none false) w ws (short_turn None 1 w e.2.0 e.2.1 e.0 e.1 e.2.2 c.0 c.1)
      go plain e = let t = word_turn w e.0 e.1 e.2 in moves (none false) (one w false) w ws _ t.0 t.1 (one_goes ws w all.1)

  -- clap's walk reads the word as `read_words` does
  pub word_goes : (ws : List Text) → AllByRecursion IsSpelled ws → ReadsAs (walk_from nothing_held) ws (read_words [] 1 ws nothing_read)
  word_goes ws all = none_goes ws all
