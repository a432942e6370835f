-- How clap's walk over the words goes, for a command with options alone.
use Rattle.std.proofs.Common.{◌≡◌, ◌∙◌, ℕ, Bool, true, false, not, ◌||◌, ◌==◌, cond, List, [], ◌∷◌, ◌++◌, map, fold, Option, Some, None, option_and_then, refl, sym, ap, subst, slice_get, encode_utf8_all, true≢false, eqb-true}
use Rattle.std.specs.List.{AllByRecursion}
use Rattle.std.specs.Str.{bytes_eq, chars}
use Rattle.std.specs.Char.{encode_utf8}
use Rattle.std.proofs.lemmas.Slice.Eq.{bytes_eq-Decides}
use Rattle.clap.specs.Lexer.{long_of, short_of}
use Rattle.clap.specs.Kinds.{Kinds, or_else}
use Rattle.clap.specs.Walk.{nothing_held, positional, Held, Row, Rule, Waiting, Walk, arg_by_id, arg_by_index, arg_by_long, arg_by_short, idle, option as waits_for, has_row, settled, walk_from, walked, with_values, without}
use Rattle.clap.specs.Faults.{long_fault, flags_fault, settle_fault, walk_fault, turn_fault}
use Rattle.clap.specs.Simple.{Shape, new_rule}
use Rattle.clap.specs.declared.builder.action.ArgAction.TheVariants.{Set}
use Rattle.clap.specs.declared.builder.value_parser.ValueParser.TheVariants as vp
use Rattle.clap.specs.Values.{reading_of}
use Rattle.clap.specs.declared.parser.matches.ValueSource.TheVariants.{CommandLine}
use Rattle.dory_cli.specs.Words.{nothing_read, Text, named, Kind, Reading, ends, option, refused, plain, kind_of, has_option, has_name, read_as, read_word, read_words}

-- an option as clap builds it
abbrev pub option_rule : Text → Bool → Rule
option_rule name required = record (new_rule name) {
  long = Some name;
  action = Some Set;
  range = Some (record { start_inclusive = 1; end_inclusive = 1 });
  parser = Some vp.String;
  required = required;
}

-- the row of an option that was given
abbrev pub row_of_option : Text × Text → Row
row_of_option p = record { id = p.0; values = p.1 ∷ []; count = None; source = Some CommandLine; reading = reading_of vp.String }

-- what a word's kind says to clap's lexer
abbrev pub Lexes : Text → Kind → Type 0
Lexes word ends = word ≡ 45 ∷ 45 ∷ []
Lexes word (option name value) = (bytes_eq word (45 ∷ 45 ∷ []) ≡ false) × (long_of word ≡ Some (name, value))
Lexes word refused = (bytes_eq word (45 ∷ 45 ∷ []) ≡ false) × (long_of word ≡ None) × ((b : ℕ) × (rest : Text) × (short_of word ≡ Some (b ∷ rest)) × (word ≡ 45 ∷ b ∷ rest))
Lexes word plain = (bytes_eq word (45 ∷ 45 ∷ []) ≡ false) × (long_of word ≡ None) × (short_of word ≡ None)

dashes : (rest : Text) → Lexes (45 ∷ 45 ∷ rest) (kind_of (45 ∷ 45 ∷ rest))
dashes [] = refl
dashes (b ∷ rest) = (refl, refl)

behind : (rest : Text) → Lexes (45 ∷ rest) (kind_of (45 ∷ rest))
behind [] = (refl, refl, refl)
behind (a ∷ rest) = go (a == 45) refl
  where
    go : (b : Bool) → (a == 45) ≡ b → Lexes (45 ∷ a ∷ rest) (kind_of (45 ∷ a ∷ rest))
    go true e = subst (λ n. Lexes (45 ∷ n ∷ rest) (kind_of (45 ∷ n ∷ rest))) (sym (eqb-true a 45 e)) (dashes rest)
    go false e = rw e (rw e refl, rw e refl, (a, rest, rw e refl, refl))

-- clap's lexer takes each word as the definition does
pub lexes : (word : Text) → Lexes word (kind_of word)
lexes [] = (refl, refl, refl)
lexes (a ∷ rest) = go (a == 45) refl
  where
    go : (b : Bool) → (a == 45) ≡ b → Lexes (a ∷ rest) (kind_of (a ∷ rest))
    go true e = subst (λ n. Lexes (n ∷ rest) (kind_of (n ∷ rest))) (sym (eqb-true a 45 e)) (behind rest)
    go false e = rw e (rw e refl, rw e refl, rw e refl)

-- ---- texts

pub same : (x : Text) → bytes_eq x x ≡ true
same x = (bytes_eq-Decides x x).1 refl

-- ---- rows

abbrev pub Options : Type 0
Options = List (Text × Text)

abbrev pub rows_of_options : Options → List Row
rows_of_options = map row_of_option

has_row-options : (name : Text) (options : Options) → has_row name (rows_of_options options) ≡ has_option name options
has_row-options name [] = refl
has_row-options name (p ∷ rest) = ap (λ b. bytes_eq p.0 name || b) (has_row-options name rest)

pub neither : (a b : Bool) → (a || b) ≡ false → (a ≡ false) × (b ≡ false)
neither true b e = absurd (true≢false e)
neither false b e = (refl, e)

kept : (name : Text) (options : Options) → has_option name options ≡ false → without name (rows_of_options options) ≡ rows_of_options options
kept name [] new = refl
kept name (p ∷ rest) new =
    let n = neither (bytes_eq p.0 name) (has_option name rest) new in
    rw n.0 (ap (λ rs. row_of_option p ∷ rs) (kept name rest n.1))

put : (name value : Text) (options : Options) → has_option name options ≡ false
    → with_values name (reading_of vp.String) CommandLine (value ∷ []) (rows_of_options options) ≡ rows_of_options (options ++ (name, value) ∷ [])
put name value [] new = refl
put name value (p ∷ rest) new =
    let n = neither (bytes_eq p.0 name) (has_option name rest) new in
    rw n.0 (ap (λ rs. row_of_option p ∷ rs) (put name value rest n.1))

-- an option that is new
one_more : (name value : Text) (options : Options) → has_option name options ≡ false
    → with_values name (reading_of vp.String) CommandLine (value ∷ []) (without name (rows_of_options options)) ≡ rows_of_options (options ++ (name, value) ∷ [])
one_more name value options new = ap (with_values name (reading_of vp.String) CommandLine (value ∷ [])) (kept name options new) ∙ put name value options new

-- ---- faults

-- there is a fault
abbrev pub fails : Kinds → Bool
fails [] = false
fails (k ∷ ks) = true

pub or_else-assoc : (a b c : Kinds) → or_else (or_else a b) c ≡ or_else a (or_else b c)
or_else-assoc [] b c = refl
or_else-assoc (k ∷ ks) b c = refl

pub fails_first : (a b : Kinds) → fails a ≡ true → fails (or_else a b) ≡ true
fails_first [] b e = absurd (true≢false (sym e))
fails_first (k ∷ ks) b e = refl

pub fails_next : (a b : Kinds) → fails b ≡ true → fails (or_else a b) ≡ true
fails_next [] b e = e
fails_next (k ∷ ks) b e = refl

-- a word is text
abbrev pub IsSpelled : Text → Type 0
IsSpelled word = encode_utf8_all (chars word) ≡ word

-- a short option has a first character
pub first_char : (b : ℕ) (rest : Text) → IsSpelled (45 ∷ b ∷ rest) → (x : ℕ) × (slice_get (chars (b ∷ rest)) 0 ≡ Some x)
unfolding chars encode_utf8
first_char b rest spelled = go (chars (b ∷ rest)) refl
  where
    go : (cs : List ℕ) → chars (b ∷ rest) ≡ cs → (x : ℕ) × (slice_get (chars (b ∷ rest)) 0 ≡ Some x)
    go [] e =
        let one : 45 ∷ [] ≡ 45 ∷ b ∷ rest = sym (ap (λ cs. encode_utf8_all (45 ∷ cs)) e) ∙ spelled in
        absurd cc
    go (x ∷ cs) e = (x, rw e refl)

-- where the walk stands
abbrev pub at : List Row → Option (Text × List Text) → Waiting → ℕ → Bool → Walk
at rows pending waiting place is_trailing = record {
  held = record { rows = rows; pending = pending; skip = 0 };
  waiting = waiting;
  position = place;
  is_trailing = is_trailing;
  stopped = None;
}

abbrev pub held_at : List Row → Option (Text × List Text) → Held
held_at rows pending = record { rows = rows; pending = pending; skip = 0 }

module _ (s : Shape) (names : List Text) (needs : Text → Bool) (over : s.args_override_self ≡ false) (leaf : s.is_leaf ≡ true)
    (known : (x : Text) → has_name x names ≡ true → arg_by_long s.rules x ≡ Some (option_rule x (needs x)))
    (unknown : (x : Text) → has_name x names ≡ false → arg_by_long s.rules x ≡ None)
    (by_id : (x : Text) → has_name x names ≡ true → arg_by_id s.rules x ≡ Some (option_rule x (needs x)))
    (no_short : (x : ℕ) → arg_by_short s.rules x ≡ None)
    (no_place : (i : ℕ) → arg_by_index s.rules i ≡ None) where
  abbrev stop : Walk → List Text → Held
  stop w ws = (fold (walked s.rules []) w ws).held

  abbrev pub total : Walk → List Text → Kinds
  total w ws = or_else (walk_fault s [] w ws) (settle_fault s.rules s.args_override_self (stop w ws))

  abbrev pub ReadsAs : Walk → List Text → Option Reading → Type 0
  ReadsAs w ws None = fails (total w ws) ≡ true
  ReadsAs w ws (Some r) = (total w ws ≡ []) × ((settled s.rules (stop w ws)).rows ≡ rows_of_options r.options)

  first : (w : Walk) (word : Text) (rest : List Text) → total w (word ∷ rest) ≡ or_else (turn_fault s [] w word) (total (walked s.rules [] w word) rest)
  unfolding walk_fault
  first w word rest = or_else-assoc (turn_fault s [] w word) (walk_fault s [] (walked s.rules [] w word) rest) _

  breaks : (w : Walk) (word : Text) (rest : List Text) → fails (turn_fault s [] w word) ≡ true → fails (total w (word ∷ rest)) ≡ true
  breaks w word rest e = rw first (fails_first (turn_fault s [] w word) _ e)

  moves : (w w' : Walk) (word : Text) (rest : List Text) (r : Option Reading) → turn_fault s [] w word ≡ [] → walked s.rules [] w word ≡ w' → ReadsAs w' rest r → ReadsAs w (word ∷ rest) r
  moves w w' word rest None e is h = rw (first, e, is) h
  moves w w' word rest (Some r) e is h = (first w word rest ∙ rw (e, is) h.0, ap (λ v. (settled s.rules (stop v rest)).rows) is ∙ h.1)

  -- ---- turns
  strays : (rows : List Row) (p : Option (Text × List Text)) (waiting : Waiting) (k : ℕ) (word : Text) → fails (turn_fault s [] (at rows p waiting k true) word) ≡ true
  strays rows p waiting k word = rw (no_place k, leaf) refl

  ends_turn : (rows : List Row) (p : Option (Text × List Text)) (k : ℕ) → (turn_fault s [] (at rows p idle k false) (45 ∷ 45 ∷ []) ≡ []) × (walked s.rules [] (at rows p idle k false) (45 ∷ 45 ∷ []) ≡ at rows p idle k true)
  unfolding walked
  ends_turn rows p k = (refl, refl)

  ends_waiting : (rows : List Row) (p : Option (Text × List Text)) (x : Text) (k : ℕ)
      → (turn_fault s [] (at rows p (waits_for x) k false) (45 ∷ 45 ∷ []) ≡ []) × (walked s.rules [] (at rows p (waits_for x) k false) (45 ∷ 45 ∷ []) ≡ at rows p (waits_for x) k true)
  unfolding walked
  ends_waiting rows p x k = (refl, refl)

  -- an option that the command lacks
  unknown_turn : (rows : List Row) (p : Option (Text × List Text)) (k : ℕ) (word name : Text) (v : Option Text)
      → bytes_eq word (45 ∷ 45 ∷ []) ≡ false → long_of word ≡ Some (name, v) → has_name name names ≡ false
      → fails (turn_fault s [] (at rows p idle k false) word) ≡ true
  unknown_turn rows p k word name v other long missing = let u = unknown name missing in rw (other, long, u) refl

  -- an option with its value
  valued_turn : (rows : List Row) (p : Option (Text × List Text)) (k : ℕ) (word name value : Text) (options : Options)
      → bytes_eq word (45 ∷ 45 ∷ []) ≡ false → long_of word ≡ Some (name, Some value) → has_name name names ≡ true
      → settle_fault s.rules s.args_override_self (held_at rows p) ≡ [] → (settled s.rules (held_at rows p)).rows ≡ rows_of_options options
      → has_option name options ≡ false
      → (turn_fault s [] (at rows p idle k false) word ≡ []) × (walked s.rules [] (at rows p idle k false) word ≡ at (rows_of_options (options ++ (name, value) ∷ [])) None idle k false)
  unfolding walked
  valued_turn rows p k word name value options other long there settles is new =
      let u = known name there in
      let no_row = has_row-options name options ∙ new in
      (rw (other, long, u, settles, is, no_row) refl, rw (other, long, u, is, one_more name value options new) refl)

  -- it is there already
  repeated_turn : (rows : List Row) (p : Option (Text × List Text)) (k : ℕ) (word name value : Text) (options : Options)
      → bytes_eq word (45 ∷ 45 ∷ []) ≡ false → long_of word ≡ Some (name, Some value) → has_name name names ≡ true
      → settle_fault s.rules s.args_override_self (held_at rows p) ≡ [] → (settled s.rules (held_at rows p)).rows ≡ rows_of_options options
      → has_option name options ≡ true
      → fails (turn_fault s [] (at rows p idle k false) word) ≡ true
  repeated_turn rows p k word name value options other long there settles is old =
      let u = known name there in
      let row = has_row-options name options ∙ old in
      rw (other, long, u, settles, is, row, over) refl

  -- an option whose value is to come
  awaits_turn : (rows : List Row) (p : Option (Text × List Text)) (k : ℕ) (word name : Text) (options : Options)
      → bytes_eq word (45 ∷ 45 ∷ []) ≡ false → long_of word ≡ Some (name, None) → has_name name names ≡ true
      → settle_fault s.rules s.args_override_self (held_at rows p) ≡ [] → (settled s.rules (held_at rows p)).rows ≡ rows_of_options options
      → (turn_fault s [] (at rows p idle k false) word ≡ []) × (walked s.rules [] (at rows p idle k false) word ≡ at (rows_of_options options) (Some (name, [])) (waits_for name) k false)
  unfolding walked
  awaits_turn rows p k word name options other long there settles is =
      let u = known name there in
      (rw (other, long, u, settles) refl, rw (other, long, u, is) refl)

  -- what is pending fails, and an option follows
  long_fails : (h : Held) (name : Text) (v : Option Text) → fails (settle_fault s.rules s.args_override_self h) ≡ true
      → fails (long_fault s.rules s.args_override_self (arg_by_long s.rules name) v h) ≡ true
  long_fails h name v bad = go (has_name name names) refl v
    where
      go : (b : Bool) → has_name name names ≡ b → (v : Option Text) → fails (long_fault s.rules s.args_override_self (arg_by_long s.rules name) v h) ≡ true
      go false e v = rw (unknown name e) refl
      go true e None = rw (known name e) bad
      go true e (Some value) = rw (known name e) (fails_first (settle_fault s.rules s.args_override_self h) _ bad)

  long_doomed : (rows : List Row) (p : Option (Text × List Text)) (waiting : Waiting) (k : ℕ) (word name : Text) (v : Option Text)
      → bytes_eq word (45 ∷ 45 ∷ []) ≡ false → long_of word ≡ Some (name, v)
      → fails (settle_fault s.rules s.args_override_self (held_at rows p)) ≡ true
      → fails (turn_fault s [] (at rows p waiting k false) word) ≡ true
  long_doomed rows p idle k word name v other long bad = rw (other, long) (fails_first (long_fault s.rules s.args_override_self (arg_by_long s.rules name) v (held_at rows p)) _ (long_fails (held_at rows p) name v bad))
  long_doomed rows p (waits_for x) k word name v other long bad = rw (other, long) (fails_first (long_fault s.rules s.args_override_self (arg_by_long s.rules name) v (held_at rows p)) _ (long_fails (held_at rows p) name v bad))
  long_doomed rows p positional k word name v other long bad = rw (other, long) (fails_first (long_fault s.rules s.args_override_self (arg_by_long s.rules name) v (held_at rows p)) _ (long_fails (held_at rows p) name v bad))

  -- a short option
  short_turn : (rows : List Row) (p : Option (Text × List Text)) (waiting : Waiting) (k : ℕ) (word : Text) (b : ℕ) (rest : Text)
      → bytes_eq word (45 ∷ 45 ∷ []) ≡ false → long_of word ≡ None → short_of word ≡ Some (b ∷ rest) → (x : ℕ) → slice_get (chars (b ∷ rest)) 0 ≡ Some x
      → fails (turn_fault s [] (at rows p waiting k false) word) ≡ true
  unfolding flags_fault
  short_turn rows p idle k word b rest other long short x some = let u = no_short x in rw (other, long, short, some, u) refl
  short_turn rows p (waits_for y) k word b rest other long short x some = let u = no_short x in rw (other, long, short, some, u) refl
  short_turn rows p positional k word b rest other long short x some = let u = no_short x in rw (other, long, short, some, u) refl

  -- another word
  plain_turn : (rows : List Row) (p : Option (Text × List Text)) (k : ℕ) (word : Text)
      → bytes_eq word (45 ∷ 45 ∷ []) ≡ false → long_of word ≡ None → short_of word ≡ None
      → fails (turn_fault s [] (at rows p idle k false) word) ≡ true
  plain_turn rows p k word other long short = let u = no_place k in rw (other, long, short, u, leaf) refl

  -- the value that was awaited
  value_turn : (rows : List Row) (x : Text) (k : ℕ) (word : Text)
      → bytes_eq word (45 ∷ 45 ∷ []) ≡ false → long_of word ≡ None → short_of word ≡ None → has_name x names ≡ true
      → (turn_fault s [] (at rows (Some (x, [])) (waits_for x) k false) word ≡ []) × (walked s.rules [] (at rows (Some (x, [])) (waits_for x) k false) word ≡ at rows (Some (x, word ∷ [])) idle k false)
  unfolding walked
  value_turn rows x k word other long short there =
      let u = by_id x there in
      let e = same x in
      (rw (other, long, short) refl, rw (other, long, short, u, e) refl)

  -- ---- whole walks

  -- what is pending fails, at the latest at the end
  doomed_ended : (ws : List Text) (rows : List Row) (p : Option (Text × List Text)) (waiting : Waiting) (k : ℕ)
      → fails (settle_fault s.rules s.args_override_self (held_at rows p)) ≡ true → fails (total (at rows p waiting k true) ws) ≡ true
  unfolding walk_fault
  doomed_ended [] rows p waiting k bad = bad
  doomed_ended (w ∷ ws) rows p waiting k bad = breaks (at rows p waiting k true) w ws (strays rows p waiting k w)

  doomed : (ws : List Text) (rows : List Row) (p : Option (Text × List Text)) (k : ℕ) → AllByRecursion IsSpelled ws
      → fails (settle_fault s.rules s.args_override_self (held_at rows p)) ≡ true → fails (total (at rows p idle k false) ws) ≡ true
  unfolding walk_fault
  doomed [] rows p k spelled bad = bad
  doomed (w ∷ ws) rows p k spelled bad = go (kind_of w) (lexes w)
    where
      go : (kind : Kind) → Lexes w kind → fails (total (at rows p idle k false) (w ∷ ws)) ≡ true
      go ends e =
          let t = ends_turn rows p k in
          subst (λ v. fails (total (at rows p idle k false) (v ∷ ws)) ≡ true) (sym e)
          (moves (at rows p idle k false) (at rows p idle k true) (45 ∷ 45 ∷ []) ws None t.0 t.1 (doomed_ended ws rows p idle k bad))
      go (option name v) e = breaks (at rows p idle k false) w ws (long_doomed rows p idle k w name v e.0 e.1 bad)
      go refused e =
          let c = first_char e.2.0 e.2.1 (subst IsSpelled e.2.3 spelled.0) in
          breaks (at rows p idle k false) w ws (short_turn rows p idle k w e.2.0 e.2.1 e.0 e.1 e.2.2 c.0 c.1)
      go plain e = breaks (at rows p idle k false) w ws (plain_turn rows p k w e.0 e.1 e.2)

  abbrev reading : Options → Option Text → Bool → Reading
  reading options waiting ended = record { options = options; others = []; waiting = waiting; ended = ended }

  ended_goes : (ws : List Text) (rows : List Row) (p : Option (Text × List Text)) (k : ℕ) (options : Options)
      → settle_fault s.rules s.args_override_self (held_at rows p) ≡ [] → (settled s.rules (held_at rows p)).rows ≡ rows_of_options options
      → ReadsAs (at rows p idle k true) ws (read_words names 0 ws (reading options None true))
  unfolding walk_fault read_words read_word
  ended_goes [] rows p k options settles is = (settles, is)
  ended_goes (w ∷ ws) rows p k options settles is = breaks (at rows p idle k true) w ws (strays rows p idle k w)

  abbrev Idle : List Text → Type 0
  Idle ws = (rows : List Row) (p : Option (Text × List Text)) (k : ℕ) (options : Options)
      → settle_fault s.rules s.args_override_self (held_at rows p) ≡ [] → (settled s.rules (held_at rows p)).rows ≡ rows_of_options options
      → ReadsAs (at rows p idle k false) ws (read_words names 0 ws (reading options None false))

  abbrev Waits : List Text → Type 0
  Waits ws = (name : Text) (k : ℕ) (options : Options) → has_name name names ≡ true
      → ReadsAs (at (rows_of_options options) (Some (name, [])) (waits_for name) k false) ws (read_words names 0 ws (reading options (Some name) false))

  -- nothing came for an option
  no_value : (name : Text) (rows : List Row) → has_name name names ≡ true → fails (settle_fault s.rules s.args_override_self (held_at rows (Some (name, [])))) ≡ true
  no_value name rows there = rw (by_id name there) refl

  idle_goes : (w : Text) (ws : List Text) → IsSpelled w → Idle ws → Waits ws → Idle (w ∷ ws)
  unfolding read_words read_word
  idle_goes w ws spelled next waits rows p k options settles is = go (kind_of w) (lexes w)
    where
      known_goes : (name : Text) (v : Option Text) → Lexes w (option name v) → has_name name names ≡ true
          → ReadsAs (at rows p idle k false) (w ∷ ws) (option_and_then (read_words names 0 ws) (named name v (reading options None false)))
      known_goes name None e there =
          let t = awaits_turn rows p k w name options e.0 e.1 there settles is in
          moves (at rows p idle k false) (at (rows_of_options options) (Some (name, [])) (waits_for name) k false) w ws _ t.0 t.1 (waits name k options there)
      known_goes name (Some value) e there = put_goes (has_option name options) refl
        where
          put_goes : (b : Bool) → has_option name options ≡ b
              → ReadsAs (at rows p idle k false) (w ∷ ws) (option_and_then (read_words names 0 ws) (cond b None (Some (reading (options ++ (name, value) ∷ []) None false))))
          put_goes true old = breaks (at rows p idle k false) w ws (repeated_turn rows p k w name value options e.0 e.1 there settles is old)
          put_goes false new =
              let t = valued_turn rows p k w name value options e.0 e.1 there settles is new in
              moves (at rows p idle k false) (at (rows_of_options (options ++ (name, value) ∷ [])) None idle k false) w ws _ t.0 t.1
              (next (rows_of_options (options ++ (name, value) ∷ [])) None k (options ++ (name, value) ∷ []) refl refl)

      option_goes : (name : Text) (v : Option Text) → Lexes w (option name v) → (b : Bool) → has_name name names ≡ b
          → ReadsAs (at rows p idle k false) (w ∷ ws) (option_and_then (read_words names 0 ws) (cond (not b) None (named name v (reading options None false))))
      option_goes name v e true there = known_goes name v e there
      option_goes name v e false missing = breaks (at rows p idle k false) w ws (unknown_turn rows p k w name v e.0 e.1 missing)

      go : (kind : Kind) → Lexes w kind → ReadsAs (at rows p idle k false) (w ∷ ws) (option_and_then (read_words names 0 ws) (read_as names 0 kind w (reading options None false)))
      go ends e =
          let t = ends_turn rows p k in
          subst (λ v. ReadsAs (at rows p idle k false) (v ∷ ws) (read_words names 0 ws (reading options None true))) (sym e)
          (moves (at rows p idle k false) (at rows p idle k true) (45 ∷ 45 ∷ []) ws _ t.0 t.1 (ended_goes ws rows p k options settles is))
      go (option name v) e = option_goes name v e (has_name name names) refl
      go refused e =
          let c = first_char e.2.0 e.2.1 (subst IsSpelled e.2.3 spelled) in
          breaks (at rows p idle k false) w ws (short_turn rows p idle k w e.2.0 e.2.1 e.0 e.1 e.2.2 c.0 c.1)
      go plain e = breaks (at rows p idle k false) w ws (plain_turn rows p k w e.0 e.1 e.2)

  waits_goes : (w : Text) (ws : List Text) → IsSpelled w → AllByRecursion IsSpelled ws → Idle ws → Waits (w ∷ ws)
  unfolding read_words read_word
  waits_goes w ws spelled all next name k options there = go (kind_of w) (lexes w)
    where
      rows : List Row
      rows = rows_of_options options

      bad : fails (settle_fault s.rules s.args_override_self (held_at (rows_of_options options) (Some (name, [])))) ≡ true
      bad = no_value name (rows_of_options options) there

      value_goes : Lexes w plain → (b : Bool) → has_option name options ≡ b
          → ReadsAs (at (rows_of_options options) (Some (name, [])) (waits_for name) k false) (w ∷ ws)
          (option_and_then (read_words names 0 ws) (cond b None (Some (reading (options ++ (name, w) ∷ []) None false))))
      value_goes e true old =
          let t = value_turn (rows_of_options options) name k w e.0 e.1 e.2 there in
          let u = by_id name there in
          let row = has_row-options name options ∙ old in
          let over_again : fails (settle_fault s.rules s.args_override_self (held_at (rows_of_options options) (Some (name, w ∷ [])))) ≡ true = rw (u, row, over) refl in
          moves (at (rows_of_options options) (Some (name, [])) (waits_for name) k false) (at (rows_of_options options) (Some (name, w ∷ [])) idle k false) w ws None t.0 t.1
          (doomed ws (rows_of_options options) (Some (name, w ∷ [])) k all over_again)
      value_goes e false new =
          let t = value_turn (rows_of_options options) name k w e.0 e.1 e.2 there in
          let u = by_id name there in
          let row = has_row-options name options ∙ new in
          moves (at (rows_of_options options) (Some (name, [])) (waits_for name) k false) (at (rows_of_options options) (Some (name, w ∷ [])) idle k false) w ws _ t.0 t.1
          (next (rows_of_options options) (Some (name, w ∷ [])) k (options ++ (name, w) ∷ []) (rw (u, row) refl) (rw u (one_more name w options new)))

      go : (kind : Kind) → Lexes w kind
          → ReadsAs (at (rows_of_options options) (Some (name, [])) (waits_for name) k false) (w ∷ ws) (option_and_then (read_words names 0 ws) (read_as names 0 kind w (reading options (Some name) false)))
      go ends e =
          let t = ends_waiting (rows_of_options options) (Some (name, [])) name k in
          subst (λ v. fails (total (at (rows_of_options options) (Some (name, [])) (waits_for name) k false) (v ∷ ws)) ≡ true) (sym e)
          (moves (at (rows_of_options options) (Some (name, [])) (waits_for name) k false) (at (rows_of_options options) (Some (name, [])) (waits_for name) k true) (45 ∷ 45 ∷ []) ws None t.0 t.1
          (doomed_ended ws (rows_of_options options) (Some (name, [])) (waits_for name) k bad))
      go (option x v) e = breaks (at (rows_of_options options) (Some (name, [])) (waits_for name) k false) w ws (long_doomed (rows_of_options options) (Some (name, [])) (waits_for name) k w x v e.0 e.1 bad)
      go refused e =
          let c = first_char e.2.0 e.2.1 (subst IsSpelled e.2.3 spelled) in
          breaks (at (rows_of_options options) (Some (name, [])) (waits_for name) k false) w ws (short_turn (rows_of_options options) (Some (name, [])) (waits_for name) k w e.2.0 e.2.1 e.0 e.1 e.2.2 c.0 c.1)
      go plain e = value_goes e (has_option name options) refl

  both_go : (ws : List Text) → AllByRecursion IsSpelled ws → Idle ws × Waits ws
  unfolding walk_fault read_words
  both_go [] all = (λ rows p k options settles is. (settles, is), λ name k options there. no_value name (rows_of_options options) there)
  both_go (w ∷ ws) all =
      let rest = both_go ws all.1 in
      (idle_goes w ws all.0 rest.0 rest.1, waits_goes w ws all.0 all.1 rest.0)

  -- clap's walk reads the words as `read_words` does
  pub walk_goes : (ws : List Text) → AllByRecursion IsSpelled ws → ReadsAs (walk_from nothing_held) ws (read_words names 0 ws nothing_read)
  walk_goes ws all = (both_go ws all).0 [] None 1 [] refl refl
