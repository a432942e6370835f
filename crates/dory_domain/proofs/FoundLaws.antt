-- What a search finds is within the ranges of a message.
use Rattle.std.proofs.Common.{◌≡◌, ℕ, ◌<◌, ◌≤◌, ◌+◌, ◌^◌, Bool, true, false, cond, List, [], ◌∷◌, ◌++◌, length, map, take, fold, Option, Some, None, is_none, position, ltb, arith, ap, ◌∙◌, refl, sym, subst}
use Rattle.std.specs.List.{All, AllByRecursion}
use Rattle.std.proofs.lemmas.List.{length-map, length-take-le}
use Rattle.std.proofs.lemmas.List.Elements.{recursion_from_All}
use Rattle.dory_base.specs.declared.ids.DocId.{DocId}
use Rattle.dory_base.specs.declared.entry.Entry.{Entry}
use Rattle.dory_base.specs.declared.entry.Change.{Change}
use Rattle.dory_base.specs.declared.entry.Change.TheVariants.{Post, Remove}
use Rattle.dory_base.specs.declared.found.Sum.{Sum}
use Rattle.dory_base.specs.declared.found.Found.{Found}
use Rattle.dory_base.specs.Sum.{parity, row_of, sum_of}
use Rattle.dory_base.specs.History.{version_of}
use Rattle.dory_base.specs.Step.{IsMembersId, State, IsState, ids_of}
use Rattle.dory_base.proofs.StepLaws.{history_is}
use Rattle.dory_base.specs.Table.{Slots, has_doc, placed, emptied, changed, step, table_of, live_from, live_of, place_of, manifest_of}
use Rattle.dory_base.specs.TableMeaning.{Kept, IsKept, StandsFor}
use Rattle.dory_base.proofs.TableLaws.{manifest_rises, length-live, number_stands, slots_stand}
use Rattle.dory_scan.specs.Found.{found_in}
use Rattle.dory_dpf.specs.PointKey.{PointKey, shares_of}
use Rattle.dory_wire.specs.Read.{found_of}
use Rattle.dory_wire.specs.Spelling.{IsLine, IsSum, IsFound}
use Rattle.dory_domain.specs.Held.{IsNamed}
use Rattle.dory_domain.proofs.Lists.{all_more, all_set, all_take}

-- an update that a manifest's line can name
record IsCarried (e : Entry) : Type 0 where
  pub named : IsNamed e
  pub id : IsMembersId e.id

abbrev CarriedSlot : Option Entry → Type 0
CarriedSlot None = Unit {0}
CarriedSlot (Some e) = IsCarried e

emptied_carried : (doc : DocId) (s : Option Entry) → CarriedSlot s → CarriedSlot (emptied doc s)
emptied_carried doc None h = tt
emptied_carried doc (Some e) h = elim (has_doc doc (Some e)) as (λ (b : Bool). CarriedSlot (cond b None (Some e))) [ true ↦ tt | false ↦ h ]

all_emptied : (doc : DocId) (slots : Slots) → AllByRecursion CarriedSlot slots → AllByRecursion CarriedSlot (map (emptied doc) slots)
all_emptied doc [] all = tt
all_emptied doc (s ∷ slots) all = (emptied_carried doc s all.0, all_emptied doc slots all.1)

all_grown : (slots : Slots) (e : Entry) (b : Bool) → IsCarried e → AllByRecursion CarriedSlot slots → AllByRecursion CarriedSlot (cond b (slots ++ Some e ∷ []) slots)
all_grown slots e true h all = all_more CarriedSlot slots (Some e) all h
all_grown slots e false h all = all

all_placed : (e : Entry) (slots : Slots) (own empty : Option ℕ) → IsCarried e → AllByRecursion CarriedSlot slots → AllByRecursion CarriedSlot (placed e slots own empty)
all_placed e slots (Some at) empty h all = all_set CarriedSlot slots at (Some e) all h
all_placed e slots None (Some at) h all = all_set CarriedSlot slots at (Some e) all h
all_placed e slots None None h all = all_grown slots e (ltb (length slots) 4096) h all

all_changed : (e : Entry) (slots : Slots) (change : Change) → IsCarried e → AllByRecursion CarriedSlot slots → AllByRecursion CarriedSlot (changed e slots change)
all_changed e slots (Post shape row tags) h all = all_placed e slots (position (has_doc e.doc) slots) (position is_none slots) h all
all_changed e slots Remove h all = all_emptied e.doc slots all

all_folded : (entries : List Entry) (slots : Slots) → AllByRecursion IsCarried entries → AllByRecursion CarriedSlot slots → AllByRecursion CarriedSlot (fold step slots entries)
all_folded [] slots carried all = all
all_folded (e ∷ entries) slots carried all = all_folded entries (step slots e) carried.1 (all_changed e slots e.change carried.0 all)

all_lines : (n : ℕ) (slots : Slots) → n + length slots ≤ 4096 → AllByRecursion CarriedSlot slots → AllByRecursion IsLine (map place_of (live_from n slots))
all_lines n [] h all = tt
all_lines n (None ∷ slots) h all = all_lines (n + 1) slots (omega arith) all.1
all_lines n (Some e ∷ slots) h all =
    (record { slot = omega arith; doc = all.0.named; member = omega (arith, all.0.id.member); some = all.0.id.serial.some; serial = all.0.id.serial.few }, all_lines (n + 1) slots (omega arith) all.1)

carried_all : (history : List Entry) → AllByRecursion IsNamed history → AllByRecursion IsMembersId (ids_of history) → AllByRecursion IsCarried history
carried_all [] named ids = tt
carried_all (e ∷ history) named ids = (record { named = named.0; id = ids.0 }, carried_all history named.1 ids.1)

manifest_lines : (s : State) (number : ℕ) (table : Kept) → IsState s → AllByRecursion IsNamed s.history → StandsFor table (version_of number s.history) → IsKept table → AllByRecursion IsLine (manifest_of table.slots)
manifest_lines s number table is named stands kept =
    let carried : AllByRecursion IsCarried (take number s.history) = all_take IsCarried number s.history (carried_all s.history named is.log.ids) in
    let slots : AllByRecursion CarriedSlot table.slots = subst (AllByRecursion CarriedSlot) (sym (slots_stand table (version_of number s.history) stands)) (all_folded (take number s.history) [] carried tt) in
    all_lines 0 table.slots (omega (arith, kept.few)) slots

few_lines : (table : Kept) → IsKept table → length (manifest_of table.slots) ≤ 4096
few_lines table kept = omega (arith, kept.few, length-live 0 table.slots, length-map (live_of table.slots) place_of)

summed : (slots : Slots) (selectors : List (List Bool)) → AllByRecursion (λ (s : Sum). s.tag < 2 ^ 128) (map (sum_of slots) selectors) → AllByRecursion (IsSum (length (manifest_of slots))) (map (sum_of slots) selectors)
summed slots [] all = tt
summed slots (s ∷ selectors) all =
    (record { bits = length-map (live_of slots) (λ l. parity s (row_of l.entry.change)) ∙ sym (length-map (live_of slots) place_of); tag = all.0 }, summed slots selectors all.1)

-- what a scan of a version finds, for at most 8 selectors
pub found_range : (s : State) (number : ℕ) (table : Kept) (selectors : List (List Bool)) (f : Found)
    → IsState s → AllByRecursion IsNamed s.history → number ≤ length s.history
    → StandsFor table (version_of number s.history) → IsKept table → length selectors ≤ 8
    → f ≡ found_in table selectors → All (λ (s : Sum). s.tag < 2 ^ 128) f.sums → IsFound f
found_range s number table selectors f is named low stands kept few found tags =
    let number_is : table.number ≡ number = number_stands table (version_of number s.history) stands ∙ length-take-le number s.history low in
    let each : All (λ (s : Sum). s.tag < 2 ^ 128) (map (sum_of table.slots) selectors) = subst (λ (g : Found). All (λ (s : Sum). s.tag < 2 ^ 128) g.sums) found tags in
    let whole : IsFound (found_in table selectors) = record {
      version = omega (arith, (history_is s is).few);
      lines = manifest_lines s number table is named stands kept;
      rising = manifest_rises table.slots;
      many = few_lines table kept;
      probes = omega (arith, length-map selectors (sum_of table.slots));
      sums = summed table.slots selectors (recursion_from_All (λ (s : Sum). s.tag < 2 ^ 128) (map (sum_of table.slots) selectors) each);
    } in
    subst IsFound (sym found) whole

map_twice : (slots : Slots) (g : PointKey → List Bool) (keys : List PointKey) → map (sum_of slots) (map g keys) ≡ map (λ key. sum_of slots (g key)) keys
map_twice slots g [] = refl
map_twice slots g (k ∷ keys) = ap (λ (ss : List Sum). sum_of slots (g k) ∷ ss) (map_twice slots g keys)

-- what a scan of a version finds is what the version holds
pub found_is : (history : List Entry) (number : ℕ) (keys : List PointKey) (table : Kept) (selectors : List (List Bool))
    → number ≤ length history → StandsFor table (version_of number history) → selectors ≡ map shares_of keys → found_in table selectors ≡ found_of history number keys
found_is history number keys table selectors low stands are =
    let slots : Slots = table_of (version_of number history) in
    let number_is : table.number ≡ number = number_stands table (version_of number history) stands ∙ length-take-le number history low in
    let slots_are : table.slots ≡ slots = slots_stand table (version_of number history) stands in
    let sums : map (sum_of table.slots) selectors ≡ map (λ key. sum_of slots (shares_of key)) keys =
    ap (λ (s : Slots). map (sum_of s) selectors) slots_are ∙ ap (map (sum_of slots)) are ∙ map_twice slots shares_of keys in
    (λ i. record { version = number_is i; manifest = manifest_of (slots_are i); sums = sums i })
