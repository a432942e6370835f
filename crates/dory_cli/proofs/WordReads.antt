-- What clap reads at the words of a command with one word, or with none.
use Rattle.std.proofs.Common.{◌≡◌, ◌∙◌, ◌≢◌, true, false, List, [], ◌∷◌, fold, Option, Some, None, is_some, option_and_then, refl, sym, ap, subst, slice_get, unwrap_or, true≢false, inl, inr}
use Rattle.std.specs.List.{AllByRecursion}
use Rattle.clap.specs.Kinds.{HasKind, IsAmong, Kinds, or_else}
use Rattle.clap.specs.Words.{HasMatchesOf, first_value, found_of, kind_of}
use Rattle.clap.specs.Walk.{Row, arg_by_id, first_of, nothing_held, rows_of, settled, walk, walk_from, walked, Held, finished}
use Rattle.clap.specs.Faults.{check_fault, defaults_fault, entered_fault, fault_of, is_simple_and_free, level_fault, settle_fault, walk_fault}
use Rattle.clap.specs.Simple.{App, Shape, built, entered, is_simple, matches_of}
use Rattle.clap.specs.declared.error.Error.{Error}
use Rattle.clap.specs.declared.error.kind.ErrorKind.TheVariants as kind
use Rattle.clap.specs.declared.parser.matches.ArgMatches.{ArgMatches}
use Rattle.clap.proofs.WalkLemmas.{first_value-rows}
use Rattle.dory_cli.specs.Words.{Reading, Text, nothing_read, read_words}
use Rattle.dory_cli.specs.Rules.{bare_app, word_app}
use Rattle.dory_cli.specs.Commands.{nothing_of, some_words, word_of, words_of}
use Rattle.dory_cli.proofs.Walks.{IsSpelled, Options, fails, fails_first, or_else-assoc, rows_of_options, same}
use Rattle.dory_cli.proofs.Levels.{Agrees, level_reads, stays}
use Rattle.dory_cli.proofs.Places.{ReadsAs, rows_of_others, word_goes, word_rule}

-- clap's faults and rows are those of a reading, seen by `view`
abbrev pub AgreesBy : {X : Type 0} → (X → List Row) → Kinds → List Row → Option X → Type 0
AgreesBy view kinds rows None = fails kinds ≡ true
AgreesBy view kinds rows (Some x) = (kinds ≡ []) × (rows ≡ view x)

-- from an app that is known to the one that the code made: what it matches, and why it refuses
module _ {X : Type 0} (view : X → List Row) (known app : App) (ws : List Text) (o : Option X) (is : app ≡ known) (simple : is_simple known ≡ true) (free : is_simple_and_free known ≡ true)
    (agrees : AgreesBy view (fault_of known ws) (matches_of known ws) o) where
  pub ok_case : (m : ArgMatches) → (is_simple_and_free app ≡ true → fault_of app ws ≡ []) → HasMatchesOf app ws m → (x : X) × (o ≡ Some x) × (rows_of (found_of m) ≡ view x)
  ok_case m passes matches = go o agrees refl
    where
      none : fault_of known ws ≡ []
      none = ap (λ a. fault_of a ws) (sym is) ∙ passes (ap is_simple_and_free is ∙ free)

      go : (r : Option X) → AgreesBy view (fault_of known ws) (matches_of known ws) r → o ≡ r → (x : X) × (o ≡ Some x) × (rows_of (found_of m) ≡ view x)
      go None bad at = absurd (true≢false (sym bad ∙ ap fails none))
      go (Some x) good at = (x, at, (matches (ap is_simple is ∙ simple)).0 ∙ ap (λ a. matches_of a ws) is ∙ good.1)

  pub err_case : (e : Error) → (is_simple_and_free app ≡ true → HasKind (fault_of app ws) e) → kind_of e ≢ kind.OutOfMemory → o ≡ None
  err_case e fails_by other = go o agrees refl
    where
      go : (r : Option X) → AgreesBy view (fault_of known ws) (matches_of known ws) r → o ≡ r → o ≡ None
      go None bad at = at
      go (Some x) good at =
          let none : fault_of app ws ≡ [] = ap (λ a. fault_of a ws) is ∙ good.0 in
          elim (fails_by (ap is_simple_and_free is ∙ free)) [
            | inl memory ↦ absurd (other memory)
            | inr one ↦ absurd (subst (IsAmong (kind_of e)) none one)
          ]

-- ---- no words

bare_fault : (command : Text) (ws : List Text) → fault_of (bare_app command) ws ≡ level_fault (built (bare_app command)).top [] nothing_held ws false []
bare_fault command ws = go (walk [] [] nothing_held ws).stopped
  where
    go : (o : Option (Text × List Text)) → level_fault (built (bare_app command)).top [] nothing_held ws (is_some (entered (built (bare_app command)) o)) (entered_fault (built (bare_app command)) o)
        ≡ level_fault (built (bare_app command)).top [] nothing_held ws false []
    go None = refl
    go (Some p) = refl

-- clap reads the words of a command with none as the definition does
pub nothing_reads : (command : Text) (ws : List Text) → AllByRecursion IsSpelled ws → AgreesBy rows_of_options (fault_of (bare_app command) ws) (matches_of (bare_app command) ws) (nothing_of ws)
unfolding nothing_of
nothing_reads command ws all = rw (bare_fault command ws) (go (nothing_of ws) (level_reads (built (bare_app command)).top [] (λ _. false) refl refl (λ x e. absurd (true≢false (sym e))) (λ x e. refl) (λ x e. absurd (true≢false (sym e))) (λ x. refl) (λ i. refl) refl refl refl ws all))
  where
    go : (o : Option Options) → Agrees (level_fault (built (bare_app command)).top [] nothing_held ws false []) (matches_of (bare_app command) ws) o
        → AgreesBy rows_of_options (level_fault (built (bare_app command)).top [] nothing_held ws false []) (matches_of (bare_app command) ws) o
    go None h = h
    go (Some x) h = h

-- ---- one word

word_fault : (command name : Text) (ws : List Text) → fault_of (word_app command name) ws ≡ level_fault (built (word_app command name)).top [] nothing_held ws false []
word_fault command name ws = go (walk (word_rule name ∷ []) [] nothing_held ws).stopped
  where
    go : (o : Option (Text × List Text)) → level_fault (built (word_app command name)).top [] nothing_held ws (is_some (entered (built (word_app command name)) o)) (entered_fault (built (word_app command name)) o)
        ≡ level_fault (built (word_app command name)).top [] nothing_held ws false []
    go None = refl
    go (Some p) = refl

abbrev shape : Text → Text → Shape
shape command name = (built (word_app command name)).top

by_id : (command name : Text) → arg_by_id (shape command name).rules name ≡ Some (word_rule name)
by_id command name = rw (same name) refl

abbrev last : Text → Text → List Text → Held
last command name ws = (fold (walked (shape command name).rules []) (walk_from nothing_held) ws).held

-- clap reads the word of a command with one as the definition does
pub word_reads : (command name : Text) (ws : List Text) → AllByRecursion IsSpelled ws → AgreesBy (rows_of_others name) (fault_of (word_app command name) ws) (matches_of (word_app command name) ws) (words_of ws)
unfolding words_of
word_reads command name ws all = rw (word_fault command name ws) (go (read_words [] 1 ws nothing_read) (word_goes (shape command name) name refl refl (λ x. refl) (by_id command name) (λ x. refl) refl refl ws all))
  where
    go : (r : Option Reading) → ReadsAs (shape command name) name refl refl (λ x. refl) (by_id command name) (λ x. refl) refl refl (walk_from nothing_held) ws r
        → AgreesBy (rows_of_others name) (level_fault (shape command name) [] nothing_held ws false []) (matches_of (word_app command name) ws) (option_and_then (λ r. some_words r.others) r)
    go None bad =
        let walking = walk_fault (shape command name) [] (walk_from nothing_held) ws in
        let settling = settle_fault (shape command name).rules false (last command name ws) in
        let later = or_else (defaults_fault (settled (shape command name).rules (last command name ws)).rows (shape command name).rules) (check_fault (shape command name) (finished (shape command name).rules (last command name ws)) false) in
        subst (λ k. fails k ≡ true) (or_else-assoc walking settling later) (fails_first (or_else walking settling) later bad)
    go (Some r) good = case r.others good.0 good.1
      where
        case : (others : List Text) → or_else (walk_fault (shape command name) [] (walk_from nothing_held) ws) (settle_fault (shape command name).rules false (last command name ws)) ≡ []
            → (settled (shape command name).rules (last command name ws)).rows ≡ rows_of_others name others
            → AgreesBy (rows_of_others name) (level_fault (shape command name) [] nothing_held ws false []) (matches_of (word_app command name) ws) (some_words others)
        case others kinds rows =
            let walking = walk_fault (shape command name) [] (walk_from nothing_held) ws in
            let settling = settle_fault (shape command name).rules false (last command name ws) in
            let later = or_else (defaults_fault (settled (shape command name).rules (last command name ws)).rows (shape command name).rules) (check_fault (shape command name) (finished (shape command name).rules (last command name ws)) false) in
            let bare = stays (shape command name).rules (settled (shape command name).rules (last command name ws)).rows refl in
            let checked : level_fault (shape command name) [] nothing_held ws false [] ≡ check_fault (shape command name) (rows_of_others name others) false =
            sym (or_else-assoc walking settling later) ∙ ap (λ k. or_else k later) kinds
            ∙ ap (λ k. or_else k (check_fault (shape command name) (finished (shape command name).rules (last command name ws)) false)) bare.1
            ∙ ap (λ rows. check_fault (shape command name) rows false) (bare.0 ∙ rows) in
            by others checked (bare.0 ∙ rows)
          where
            by : (others : List Text) → level_fault (shape command name) [] nothing_held ws false [] ≡ check_fault (shape command name) (rows_of_others name others) false
                → matches_of (word_app command name) ws ≡ rows_of_others name others
                → AgreesBy (rows_of_others name) (level_fault (shape command name) [] nothing_held ws false []) (matches_of (word_app command name) ws) (some_words others)
            by [] checked rows = ap fails checked
            by (w ∷ rest) checked rows = (checked ∙ rw (same name) refl, rows)

-- the word that the getter gives
pub read_word_value : (m : ArgMatches) (name : Text) (others : List Text) → rows_of (found_of m) ≡ rows_of_others name others → first_value (found_of m) name ≡ slice_get others 0
read_word_value m name others is = first_value-rows (found_of m) name ∙ ap (first_of name) is ∙ go others
  where
    go : (others : List Text) → first_of name (rows_of_others name others) ≡ slice_get others 0
    go [] = refl
    go (w ∷ rest) = rw (same name) refl

-- the commands are of the simple kind that clap's contract speaks of
pub simple_bare : (name : Text) → is_simple (bare_app name) ≡ true
simple_bare name = refl

pub free_bare : (name : Text) → is_simple_and_free (bare_app name) ≡ true
free_bare name = refl

pub simple_word : (command name : Text) → is_simple (word_app command name) ≡ true
simple_word command name = refl

pub free_word : (command name : Text) → is_simple_and_free (word_app command name) ≡ true
free_word command name = refl

-- the words that are there have a first
pub some_word : (ws others : List Text) (t : Text) → words_of ws ≡ Some others → t ≡ unwrap_or (slice_get others 0) [] → (y : Text) × (word_of ws ≡ Some y) × (t ≡ y)
unfolding words_of
some_word ws others t is at = go (read_words [] 1 ws nothing_read) is
  where
    not_empty : (xs : List Text) → some_words xs ≡ Some others → (y : Text) × (option_and_then (λ o. slice_get o 0) (some_words xs) ≡ Some y) × (t ≡ y)
    not_empty [] e = absurd (true≢false (sym (ap is_some e)))
    not_empty (w ∷ rest) e =
        let same : slice_get (w ∷ rest) 0 ≡ slice_get others 0 = ap (option_and_then (λ o. slice_get o 0)) e in
        (w, refl, at ∙ ap (λ v. unwrap_or v []) (sym same))

    go : (r : Option Reading) → option_and_then (λ r. some_words r.others) r ≡ Some others → (y : Text) × (option_and_then (λ o. slice_get o 0) (option_and_then (λ r. some_words r.others) r) ≡ Some y) × (t ≡ y)
    go None e = absurd (true≢false (sym (ap is_some e)))
    go (Some r) e = not_empty r.others e
