-- What clap reads at the words of `init`.
use Rattle.std.proofs.Common.{◌≡◌, ◌∙◌, ℕ, Bool, true, false, cond, ◌||◌, List, [], ◌∷◌, Option, Some, None, is_some, ◌≢◌, IsUtf8, unwrap_or, refl, sym, ap, ap₂, subst, codes, true≢false, inl, inr}
use Rattle.std.specs.List.{AllByRecursion}
use Rattle.std.specs.Str.{bytes_eq}
use Rattle.std.proofs.lemmas.Slice.Eq.{bytes_eq-Decides}
use Rattle.std.proofs.lemmas.Str.{encodes-chars}
use Rattle.clap.specs.Kinds.{HasKind, IsAmong}
use Rattle.clap.specs.Words.{HasMatchesOf, first_value, found_of, kind_of}
use Rattle.clap.specs.declared.error.Error.{Error}
use Rattle.clap.specs.declared.error.kind.ErrorKind.TheVariants as kind
use Rattle.clap.specs.declared.parser.matches.ArgMatches.{ArgMatches}
use Rattle.clap.proofs.WalkLemmas.{first_value-rows}
use Rattle.clap.specs.Walk.{rows_of, walk, arg_by_id, arg_by_index, arg_by_long, arg_by_short, first_of, nothing_held, rows_after}
use Rattle.clap.specs.Faults.{entered_fault, fault_of, level_fault, is_simple_and_free}
use Rattle.clap.specs.Simple.{App, Shape, built, entered, is_simple, matches_of}
use Rattle.dory_cli.specs.Words.{Text, has_name}
use Rattle.dory_cli.specs.Rules.{init_app}
use Rattle.dory_cli.specs.Commands.{Texts, init_names, init_options, texts_of, value_of}
use Rattle.dory_cli.proofs.Walks.{fails, neither, IsSpelled, Options, option_rule, rows_of_options}
use Rattle.dory_cli.proofs.Levels.{Agrees, level_reads}

abbrev shape : Shape
shape = (built init_app).top

abbrev is_needed : Text → Bool
is_needed name = cond (bytes_eq (codes "serial") name) false true

is_text : (a b : Text) → bytes_eq a b ≡ true → a ≡ b
is_text a b e = (bytes_eq-Decides a b).0 e

-- a test that holds of each of the names holds of one that is among them
among : (P : Text → Type 0) (names : List Text) (x : Text) → AllByRecursion P names → has_name x names ≡ true → P x
among P [] x all e = absurd (true≢false (sym e))
among P (n ∷ rest) x all e = go (bytes_eq n x) refl (among P rest x all.1) e
  where
    go : (b : Bool) → bytes_eq n x ≡ b → (has_name x rest ≡ true → P x) → (b || has_name x rest) ≡ true → P x
    go true is later e = subst P (is_text n x is) all.0
    go false is later e = later e

long_known : (x : Text) → has_name x init_names ≡ true → arg_by_long shape.rules x ≡ Some (option_rule x (is_needed x))
long_known = λ x. among (λ x. arg_by_long shape.rules x ≡ Some (option_rule x (is_needed x))) init_names x (refl, (refl, (refl, (refl, (refl, (refl, tt))))))

by_id : (x : Text) → has_name x init_names ≡ true → arg_by_id shape.rules x ≡ Some (option_rule x (is_needed x))
by_id = λ x. among (λ x. arg_by_id shape.rules x ≡ Some (option_rule x (is_needed x))) init_names x (refl, (refl, (refl, (refl, (refl, (refl, tt))))))

long_unknown : (x : Text) → has_name x init_names ≡ false → arg_by_long shape.rules x ≡ None
long_unknown x e =
    let a = neither (bytes_eq (codes "folder") x) (has_name x (codes "member" ∷ codes "depth" ∷ codes "probes" ∷ codes "master" ∷ codes "serial" ∷ [])) e in
    let b = neither (bytes_eq (codes "member") x) (has_name x (codes "depth" ∷ codes "probes" ∷ codes "master" ∷ codes "serial" ∷ [])) a.1 in
    let c = neither (bytes_eq (codes "depth") x) (has_name x (codes "probes" ∷ codes "master" ∷ codes "serial" ∷ [])) b.1 in
    let d = neither (bytes_eq (codes "probes") x) (has_name x (codes "master" ∷ codes "serial" ∷ [])) c.1 in
    let f = neither (bytes_eq (codes "master") x) (has_name x (codes "serial" ∷ [])) d.1 in
    let g = neither (bytes_eq (codes "serial") x) false f.1 in
    rw (a.0, b.0, c.0, d.0, f.0, g.0) refl

no_short : (x : ℕ) → arg_by_short shape.rules x ≡ None
no_short x = refl

no_place : (i : ℕ) → arg_by_index shape.rules i ≡ None
no_place i = refl

is_simple_app : is_simple init_app ≡ true
is_simple_app = refl

is_free_app : is_simple_and_free init_app ≡ true
is_free_app = refl

-- clap reads the words of `init` as the definition does
pub init_reads : (ws : List Text) → AllByRecursion IsSpelled ws → Agrees (level_fault shape [] nothing_held ws false []) (rows_after shape.rules [] ws) (init_options ws)
unfolding init_options
init_reads ws all = level_reads shape init_names is_needed refl refl long_known long_unknown by_id no_short no_place refl refl refl ws all

no_entry : (o : Option (Text × List Text)) → is_some (entered (built init_app) o) ≡ false
no_entry None = refl
no_entry (Some p) = refl

no_entry_fault : (o : Option (Text × List Text)) → entered_fault (built init_app) o ≡ []
no_entry_fault None = refl
no_entry_fault (Some p) = refl

fault_is : (ws : List Text) → fault_of init_app ws ≡ level_fault shape [] nothing_held ws false []
fault_is ws =
    let o = (walk shape.rules [] nothing_held ws).stopped in
    ap₂ (level_fault shape [] nothing_held ws) (no_entry o) (no_entry_fault o)

-- the value of an option, by the rows
row_value : (name : Text) (options : Options) → first_of name (rows_of_options options) ≡ value_of name options
row_value name [] = refl
row_value name (p ∷ rest) = go (bytes_eq p.0 name) refl (row_value name rest)
  where
    go : (b : Bool) → bytes_eq p.0 name ≡ b → first_of name (rows_of_options rest) ≡ value_of name rest → first_of name (rows_of_options (p ∷ rest)) ≡ value_of name (p ∷ rest)
    go true e later = rw e refl
    go false e later = rw e later

-- clap's getter gives the value of an option
pub read_value : (m : ArgMatches) (options : Options) → rows_of (found_of m) ≡ rows_of_options options → (name : Text) → first_value (found_of m) name ≡ value_of name options
read_value m options is name = first_value-rows (found_of m) name ∙ ap (first_of name) is ∙ row_value name options

-- what clap matches are the options read
pub init_ok : (app : App) (ws : List Text) (m : ArgMatches) → app ≡ init_app → AllByRecursion IsSpelled ws → (is_simple_and_free app ≡ true → fault_of app ws ≡ []) → HasMatchesOf app ws m
    → (o : Options) × (init_options ws ≡ Some o) × (rows_of (found_of m) ≡ rows_of_options o)
init_ok app ws m is all passes matches = go (init_options ws) refl (init_reads ws all)
  where
    none : level_fault shape [] nothing_held ws false [] ≡ []
    none = sym (fault_is ws) ∙ ap (λ a. fault_of a ws) (sym is) ∙ passes (ap is_simple_and_free is ∙ is_free_app)

    go : (r : Option Options) → init_options ws ≡ r → Agrees (level_fault shape [] nothing_held ws false []) (rows_after shape.rules [] ws) r
        → (o : Options) × (init_options ws ≡ Some o) × (rows_of (found_of m) ≡ rows_of_options o)
    go None e bad = absurd (true≢false (sym bad ∙ ap fails none))
    go (Some o) e good = (o, e, (matches (ap is_simple is ∙ is_simple_app)).0 ∙ ap (λ a. matches_of a ws) is ∙ good.1)

-- what clap refuses, other than for want of memory, is not read
pub init_err : (app : App) (ws : List Text) (e : Error) → app ≡ init_app → AllByRecursion IsSpelled ws → (is_simple_and_free app ≡ true → HasKind (fault_of app ws) e) → kind_of e ≢ kind.OutOfMemory → init_options ws ≡ None
init_err app ws e is all fails_by other = go (init_options ws) refl (init_reads ws all)
  where
    go : (r : Option Options) → init_options ws ≡ r → Agrees (level_fault shape [] nothing_held ws false []) (rows_after shape.rules [] ws) r → init_options ws ≡ None
    go None at bad = at
    go (Some o) at good =
        let none : fault_of app ws ≡ [] = ap (λ a. fault_of a ws) is ∙ fault_is ws ∙ good.0 in
        elim (fails_by (ap is_simple_and_free is ∙ is_free_app)) [
          | inl memory ↦ absurd (other memory)
          | inr among ↦ absurd (subst (IsAmong (kind_of e)) none among)
        ]

-- words in UTF-8 are the spelling of their characters
pub words_spelled : (ws : List Text) → AllByRecursion IsUtf8 ws → AllByRecursion IsSpelled ws
words_spelled [] all = tt
words_spelled (w ∷ ws) all = (encodes-chars w all.0, words_spelled ws all.1)

-- the texts that the getters give
pub texts_are : (m : ArgMatches) (o : Options) → rows_of (found_of m) ≡ rows_of_options o → (a b c d e : Text) (f : Option Text)
    → a ≡ unwrap_or (first_value (found_of m) (codes "folder")) [] → b ≡ unwrap_or (first_value (found_of m) (codes "member")) []
    → c ≡ unwrap_or (first_value (found_of m) (codes "depth")) [] → d ≡ unwrap_or (first_value (found_of m) (codes "probes")) []
    → e ≡ unwrap_or (first_value (found_of m) (codes "master")) [] → f ≡ first_value (found_of m) (codes "serial")
    → ◌≡◌ {A = Texts} (texts_of o) (record { folder = a; member = b; depth = c; probes = d; master = e; serial = f })
texts_are m o is a b c d e f pa pb pc pd pe pf =
    let read = λ (name : Text). ap (λ v. unwrap_or v []) (sym (read_value m o is name)) in
    λ i. record {
      folder = (read (codes "folder") ∙ sym pa) i;
      member = (read (codes "member") ∙ sym pb) i;
      depth = (read (codes "depth") ∙ sym pc) i;
      probes = (read (codes "probes") ∙ sym pd) i;
      master = (read (codes "master") ∙ sym pe) i;
      serial = (sym (read_value m o is (codes "serial")) ∙ sym pf) i;
    }
