-- A parse of a command with options alone, as a whole.
use Rattle.std.proofs.Common.{◌≡◌, ◌∙◌, ℕ, Bool, true, false, not, ◌&&◌, ◌||◌, cond, List, [], ◌∷◌, fold, Option, Some, None, option_and_then, refl, sym, ap, subst, true≢false}
use Rattle.std.specs.List.{AllByRecursion, list_any, list_all}
use Rattle.std.specs.Str.{bytes_eq}
use Rattle.clap.specs.Kinds.{Kinds, or_else, check_kinds}
use Rattle.clap.specs.Takes.{is_given}
use Rattle.clap.proofs.SimpleLemmas.{is_nil}
use Rattle.clap.specs.Walk.{Held, reading_by, Row, Rule, arg_by_id, arg_by_index, arg_by_long, arg_by_short, has_row, is_empty, nothing_held, settled, walk_from, walked, with_default, default_rows, rows_after, finished}
use Rattle.clap.specs.Faults.{check_fault, defaults_fault, level_fault, settle_fault, walk_fault}
use Rattle.clap.specs.Simple.{Shape}
use Rattle.dory_cli.specs.Words.{Text, Reading, has_option, has_name, nothing_read, read_words}
use Rattle.dory_cli.specs.Commands.{with_needed}
use Rattle.dory_cli.proofs.Barring.{true_after}
use Rattle.dory_cli.proofs.Walks.{IsSpelled, Options, ReadsAs, or_else-assoc, fails, fails_first, option_rule, rows_of_options, walk_goes}

-- an option was given where it has a row
given : (name : Text) (options : Options) → is_given name (rows_of_options options) ≡ has_option name options
given name [] = refl
given name (p ∷ rest) = go (bytes_eq p.0 name) refl (given name rest)
  where
    go : (b : Bool) → bytes_eq p.0 name ≡ b → is_given name (rows_of_options rest) ≡ has_option name rest → is_given name (rows_of_options (p ∷ rest)) ≡ has_option name (p ∷ rest)
    go true e later = rw e refl
    go false e later = rw e later

-- no option has a value where none is given
abbrev pub no_defaults : List Rule → Bool
no_defaults = list_all (λ a. is_empty a.defaults)

either_way : {A : Type 0} (b : Bool) (x : A) → cond b x x ≡ x
either_way true x = refl
either_way false x = refl

both_true : (a b : Bool) → (a && b) ≡ true → (a ≡ true) × (b ≡ true)
both_true true b e = (refl, e)
both_true false b e = absurd (true≢false (sym e))

adds_none : (rows : List Row) (a : Rule) → is_empty a.defaults ≡ true → with_default rows a ≡ rows
adds_none rows a e =
    ap (λ values. cond (has_row a.id rows) rows (default_rows a.id (reading_by a) values rows)) (is_nil a.defaults e) ∙ either_way (has_row a.id rows) rows

-- then the rows stay as they were given
pub stays : (c : List Rule) (rows : List Row) → no_defaults c ≡ true → (fold with_default rows c ≡ rows) × (defaults_fault rows c ≡ [])
unfolding defaults_fault
stays [] rows none = (refl, refl)
stays (a ∷ rest) rows none =
    let n = both_true _ _ none in
    let one = adds_none rows a n.0 in
    let later = stays rest rows n.1 in
    (rw one later.0, rw (n.0, true_after (has_row a.id rows), one) later.1)

-- the ids of the rules that are required
abbrev pub needs_of : List Rule → List Text
needs_of [] = []
needs_of (a ∷ rest) = cond a.required (a.id ∷ needs_of rest) (needs_of rest)

and_false : (b : Bool) → (b && false) ≡ false
and_false true = refl
and_false false = refl

de_morgan : (a b : Bool) → (not a || not b) ≡ not (a && b)
de_morgan true b = refl
de_morgan false b = refl

lacks : (c : List Rule) (options : Options) → list_any (λ a. a.required && not (is_given a.id (rows_of_options options))) c ≡ not (list_all (λ name. has_option name options) (needs_of c))
lacks [] options = refl
lacks (a ∷ rest) options = go a.required refl (lacks rest options)
  where
    go : (b : Bool) → a.required ≡ b → list_any (λ a. a.required && not (is_given a.id (rows_of_options options))) rest ≡ not (list_all (λ name. has_option name options) (needs_of rest))
        → list_any (λ a. a.required && not (is_given a.id (rows_of_options options))) (a ∷ rest) ≡ not (list_all (λ name. has_option name options) (needs_of (a ∷ rest)))
    go false e later = rw e later
    go true e later = rw (e, given a.id options, later) (de_morgan (has_option a.id options) (list_all (λ name. has_option name options) (needs_of rest)))

-- clap's faults and rows are those of the options read
abbrev pub Agrees : Kinds → List Row → Option Options → Type 0
Agrees kinds rows None = fails kinds ≡ true
Agrees kinds rows (Some options) = (kinds ≡ []) × (rows ≡ rows_of_options options)

module _ (s : Shape) (names : List Text) (needs : Text → Bool) (over : s.args_override_self ≡ false) (leaf : s.is_leaf ≡ true)
    (known : (x : Text) → has_name x names ≡ true → arg_by_long s.rules x ≡ Some (option_rule x (needs x)))
    (unknown : (x : Text) → has_name x names ≡ false → arg_by_long s.rules x ≡ None)
    (by_id : (x : Text) → has_name x names ≡ true → arg_by_id s.rules x ≡ Some (option_rule x (needs x)))
    (no_short : (x : ℕ) → arg_by_short s.rules x ≡ None)
    (no_place : (i : ℕ) → arg_by_index s.rules i ≡ None)
    (bare : no_defaults s.rules ≡ true) (quiet : s.arg_required_else_help ≡ false) (alone : s.subcommand_required ≡ false) where
  abbrev last : List Text → Held
  last ws = (fold (walked s.rules []) (walk_from nothing_held) ws).held

  -- clap reads a command with options alone as the definition does
  pub level_reads : (ws : List Text) → AllByRecursion IsSpelled ws
      → Agrees (level_fault s [] nothing_held ws false []) (rows_after s.rules [] ws) (option_and_then (with_needed (needs_of s.rules)) (read_words names 0 ws nothing_read))
  level_reads ws all = go (read_words names 0 ws nothing_read) (walk_goes s names needs over leaf known unknown by_id no_short no_place ws all)
    where
      go : (r : Option Reading) → ReadsAs s names needs over leaf known unknown by_id no_short no_place (walk_from nothing_held) ws r
          → Agrees (level_fault s [] nothing_held ws false []) (rows_after s.rules [] ws) (option_and_then (with_needed (needs_of s.rules)) r)
      go None bad =
          let walking = walk_fault s [] (walk_from nothing_held) ws in
          let settling = settle_fault s.rules s.args_override_self (last ws) in
          let later = or_else (defaults_fault (settled s.rules (last ws)).rows s.rules) (check_fault s (finished s.rules (last ws)) false) in
          subst (λ k. fails k ≡ true) (or_else-assoc walking settling later) (fails_first (or_else walking settling) later bad)
      go (Some r) good = needed (list_all (λ name. has_option name r.options) (needs_of s.rules)) refl
        where
          rows_are : rows_after s.rules [] ws ≡ rows_of_options r.options
          rows_are = (stays s.rules (settled s.rules (last ws)).rows bare).0 ∙ good.1

          kinds_are : level_fault s [] nothing_held ws false [] ≡ check_fault s (rows_of_options r.options) false
          kinds_are =
              let walking = walk_fault s [] (walk_from nothing_held) ws in
              let settling = settle_fault s.rules s.args_override_self (last ws) in
              let later = or_else (defaults_fault (settled s.rules (last ws)).rows s.rules) (check_fault s (finished s.rules (last ws)) false) in
              sym (or_else-assoc walking settling later) ∙ ap (λ k. or_else k later) good.0
              ∙ ap (λ k. or_else k (check_fault s (finished s.rules (last ws)) false)) (stays s.rules (settled s.rules (last ws)).rows bare).1
              ∙ ap (λ rows. check_fault s rows false) ((stays s.rules (settled s.rules (last ws)).rows bare).0 ∙ good.1)

          check_is : check_fault s (rows_of_options r.options) false ≡ check_kinds false false (not (list_all (λ name. has_option name r.options) (needs_of s.rules)))
          check_is = rw (quiet, alone, and_false s.subcommand_negates_reqs, lacks s.rules r.options) refl

          needed : (b : Bool) → list_all (λ name. has_option name r.options) (needs_of s.rules) ≡ b
              → Agrees (level_fault s [] nothing_held ws false []) (rows_after s.rules [] ws) (cond b (Some r.options) None)
          needed true e = (kinds_are ∙ check_is ∙ ap (λ b. check_kinds false false (not b)) e, rows_are)
          needed false e = ap fails (kinds_are ∙ check_is ∙ ap (λ b. check_kinds false false (not b)) e)
