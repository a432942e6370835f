-- A list of folders with no fault has 1 to 8 of them, all apart, each with a number of versions in range.
use Rattle.std.proofs.Common.{◌≡◌, ◌≢◌, ℕ, ◌<◌, ◌≤◌, ◌==◌, ◌&&◌, Bool, true, false, not, cond, leb, List, length, map, take, get_or, Option, Some, None, arith, ap, ◌∙◌, sym, subst, refl, eq-eqb, true≢false}
use Rattle.std.specs.List.{range_with_len}
use Rattle.std.proofs.lemmas.List.{length-map, get_or-map, get_or-take, length-take-le}
use Rattle.std.proofs.lemmas.List.Folds.{list_any_at}
use Rattle.std.proofs.lemmas.List.FromFn.{length-range_with_len, get_or-range_with_len}
use Rattle.dory_base.specs.declared.ids.Side.{Side}
use Rattle.dory_domain.specs.declared.config.FolderConfig.{FolderConfig}
use Rattle.dory_domain.specs.declared.config.ConfigFault.{ConfigFault}
use Rattle.dory_domain.specs.declared.config.ConfigFault.TheVariants.{Folders}
use Rattle.dory_domain.specs.Config.{numbers_of, stands_earlier, first_twice, is_retained, first_unretained, retained_fault, listed_fault, config_fault_of}
use Rattle.dory_domain.specs.Held.{Held, opened, AreHeld}
use Rattle.dory_domain.proofs.Lists.{none_passes}

abbrev is_few : ℕ → Bool
is_few n = leb 1 n && leb n 8

few_is : (n : ℕ) → is_few n ≡ true → n ≤ 8
few_is n h = grind arith

-- no fault, seen check by check
record HasNoFault (configs : List FolderConfig) : Type 0 where
  pub few : length configs ≤ 8
  pub apart : first_twice configs ≡ None
  pub retained : first_unretained configs ≡ None

faultless_retained : (configs : List FolderConfig) (o : Option ℕ) → retained_fault configs o ≡ None → o ≡ None
faultless_retained configs None h = refl
faultless_retained configs (Some place) h = cc

faultless_listed : (configs : List FolderConfig) (o : Option ℕ) → listed_fault configs o ≡ None → (o ≡ None) × (first_unretained configs ≡ None)
faultless_listed configs None h = (refl, faultless_retained configs (first_unretained configs) h)
faultless_listed configs (Some place) h = cc

faultless_whole : (configs : List FolderConfig) (b : Bool) → is_few (length configs) ≡ b → ◌≡◌ {A = Option ConfigFault} (cond b (listed_fault configs (first_twice configs)) (Some (Folders (length configs)))) None → HasNoFault configs
faultless_whole configs true few h =
    let rest : (first_twice configs ≡ None) × (first_unretained configs ≡ None) = faultless_listed configs (first_twice configs) h in
    record { few = few_is (length configs) few; apart = rest.0; retained = rest.1 }
faultless_whole configs false few h = cc

faultless : (configs : List FolderConfig) → config_fault_of configs ≡ None → HasNoFault configs
faultless configs h = faultless_whole configs (is_few (length configs)) refl h

in_range : (n : ℕ) → not (is_retained n) ≡ false → (1 ≤ n) × (n ≤ 256)
in_range n h = (grind arith, grind arith)

-- each folder's number of versions is in range
pub retained_at : (configs : List FolderConfig) → config_fault_of configs ≡ None → (k : ℕ) (d : FolderConfig) → k < length configs → (1 ≤ (get_or configs k d).retained) × ((get_or configs k d).retained ≤ 256)
retained_at configs none k d h = in_range (get_or configs k d).retained (none_passes (λ (x : FolderConfig). not (is_retained x.retained)) configs (faultless configs none).retained k d h)

nowhere : FolderConfig
nowhere = record { folder = record { 0 = 0 }; shape = record { depth = 8; probes = 1 }; retained = 1 }

not_earlier : (configs : List FolderConfig) → first_twice configs ≡ None → (j : ℕ) → j < length configs → stands_earlier configs j ≡ false
not_earlier configs none j h =
    let at : get_or (range_with_len 0 (length configs)) j 0 ≡ j = get_or-range_with_len 0 (length configs) j 0 h ∙ omega arith in
    ap (stands_earlier configs) (sym at) ∙ none_passes (stands_earlier configs) (range_with_len 0 (length configs)) none j 0 (omega (arith, length-range_with_len 0 (length configs)))

number_at : (configs : List FolderConfig) (j : ℕ) → j < length configs → get_or (numbers_of configs) j 0 ≡ (get_or configs j nowhere).folder.0
number_at configs j h = get_or-map (λ (x : FolderConfig). x.folder.0) configs j nowhere 0 h

apart_at : (configs : List FolderConfig) → first_twice configs ≡ None → (i j : ℕ) → i < j → j < length configs → (get_or configs i nowhere).folder.0 ≢ (get_or configs j nowhere).folder.0
apart_at configs none i j low h = λ same.
    let p : FolderConfig → Bool = λ x. x.folder.0 == get_or (numbers_of configs) j 0 in
    let inside : i < length (take j configs) = omega (arith, length-take-le j configs (omega arith)) in
    let here : (get_or (take j configs) i nowhere).folder.0 ≡ get_or (numbers_of configs) j 0 =
    ap (λ (x : FolderConfig). x.folder.0) (get_or-take j configs i nowhere low) ∙ same ∙ sym (number_at configs j h) in
    let found : stands_earlier configs j ≡ true = list_any_at p (take j configs) i nowhere inside (eq-eqb (get_or (take j configs) i nowhere).folder.0 (get_or (numbers_of configs) j 0) here) in
    true≢false (sym found ∙ not_earlier configs none j h)

-- folders that begin from such a list are a domain's folders
pub all_opened : (role : Side) (configs : List FolderConfig) → config_fault_of configs ≡ None → (folders : List Held) → folders ≡ map (opened role) configs → AreHeld folders
all_opened role configs none folders are =
    let ok : HasNoFault configs = faultless configs none in
    let same : length (map (opened role) configs) ≡ length configs = length-map configs (opened role) in
    let number : (k : ℕ) (d : Held) → k < length configs → (get_or (map (opened role) configs) k d).number ≡ (get_or configs k nowhere).folder.0 =
    λ k d low. ap (λ (f : Held). f.number) (get_or-map (opened role) configs k nowhere d low) in
    subst AreHeld (sym are) (record {
      few = omega (arith, ok.few, same);
      distinct = λ i j d low high. λ eq.
          let top : j < length configs = omega arith in
          apart_at configs ok.apart i j low top (sym (number i d (omega arith)) ∙ eq ∙ number j d top);
    })
