-- Beside an honest reply a pair without a fault is right and the other reply honest, or that is the forgery.
use Rattle.std.proofs.Common.{◌≡◌, ℕ, ◌+◌, ◌<◌, ◌^◌, ◌&&◌, Bool, true, false, cond, List, [], ◌∷◌, ◌++◌, length, map, filter, get_or, Ok, Err, Result, refl, sym, ap, ◌∙◌, subst, arith, inl, inr, ◌⊎◌, ⊎_elim, append_assoc, length-append}
use Rattle.std.specs.Prelude.{bit_xor, ◌==◌, Some, IfOk}
use Rattle.std.specs.List.{list_all, range_with_len, AllByRecursion, AllZip}
use Rattle.std.proofs.lemmas.Nat.{xor_comm}
use Rattle.std.proofs.lemmas.List.FromFn.{get_or-map-range_with_len}
use Rattle.dory_base.specs.Xor.{xor}
use Rattle.dory_base.specs.Dims.{Dims}
use Rattle.dory_base.specs.PointPair.{IsPointPair}
use Rattle.dory_base.specs.declared.entry.Entry.{Entry}
use Rattle.dory_base.specs.declared.ids.AskId.{AskId}
use Rattle.dory_base.specs.declared.found.Place.{Place}
use Rattle.dory_base.specs.declared.found.Sum.{Sum}
use Rattle.dory_base.specs.declared.found.Found.{Found}
use Rattle.dory_base.specs.History.{version_of}
use Rattle.dory_base.specs.Table.{Slots, Live, live_of, place_of, manifest_of, table_of}
use Rattle.dory_base.specs.Sum.{row_of, sum_of}
use Rattle.dory_bloom.specs.Positions.{positions_of}
use Rattle.dory_hmac.specs.declared.folder_keys.FolderKeys.{FolderKeys}
use Rattle.dory_seal.specs.Seal.{mask_bit_of, plain_of}
use Rattle.dory_fields.specs.Bytes.{IsBytes}
use Rattle.dory_wire.specs.Spelling.{IsSum}
use Rattle.dory_wire.specs.declared.message.What.{What}
use Rattle.dory_wire.specs.declared.message.What.TheVariants.{Found as Finds}
use Rattle.dory_wire.specs.declared.message.Reply.{Reply}
use Rattle.dory_verify.specs.declared.answer.Answer.{Answer}
use Rattle.dory_verify.specs.declared.fault.VerifyError.{VerifyError}
use Rattle.dory_verify.specs.declared.fault.CheckFault.{CheckFault}
use Rattle.dory_verify.specs.declared.fault.CheckFault.TheVariants as fault
use Rattle.dory_verify.specs.Tags.{xor_bits, line_tag, tag_sum}
use Rattle.dory_verify.specs.Listing.{crossed, is_line_listed, listed_from, Lists}
use Rattle.dory_verify.specs.Answer.{IsRising, numbers, holds_all, matching, IsAnswer}
use Rattle.dory_verify.specs.Forgery.{Probe, IsHonest, IsForgeryOf, IsForgery, probes_of}
use Rattle.dory_verify.specs.SideBySide.{cells_at, Both, other_of, IsTagged, HasPointPair, IsChecked, IsShown}
use Rattle.dory_query.specs.Pairs.{ArePairs}
use Rattle.dory_verify.specs.Honest.{IsFoundIn, found_by, IsSearch, IsRightOrForged}
use Rattle.dory_verify.specs.Checks.{adds_up, all_add_up, first_fault_of, Verifies}
use Rattle.dory_verify.proofs.Shifts.{verified}
use Rattle.dory_verify.proofs.Tagged.{all_tagged, entries_taken}
use Rattle.dory_verify.proofs.CheckLaws as checks
use Rattle.dory_verify.proofs.CheckLaws.{all_add_ok, checked_ok}

-- ---- the two sides change places

bit_comm : (a b : Bool) → xor a b ≡ xor b a
bit_comm true true = refl
bit_comm true false = refl
bit_comm false true = refl
bit_comm false false = refl

bits_comm : (us vs : List Bool) → xor_bits us vs ≡ xor_bits vs us
bits_comm [] [] = refl
bits_comm [] (v ∷ vs) = refl
bits_comm (u ∷ us) [] = refl
bits_comm (u ∷ us) (v ∷ vs) = λ i. bit_comm u v i ∷ bits_comm us vs i

crossed_comm : (xs ys : List Sum) → crossed xs ys ≡ crossed ys xs
crossed_comm [] [] = refl
crossed_comm [] (b ∷ ys) = refl
crossed_comm (a ∷ xs) [] = refl
crossed_comm (a ∷ xs) (b ∷ ys) = λ i. bits_comm a.bits b.bits i ∷ crossed_comm xs ys i

abbrev verdict : ℕ → ℕ → ℕ → Result (Unit {0}) CheckFault
verdict probe got want = cond (got == want) (Ok tt) (Err (fault.TagSum probe got want))

adds_comm : (keys : FolderKeys) (places : List Place) (probe c : ℕ) (a b : Sum) → adds_up keys places probe c a b ≡ adds_up keys places probe c b a
adds_comm keys places probe c a b = λ i. verdict probe (xor_comm a.tag b.tag i) (tag_sum keys c places (bits_comm a.bits b.bits i))

pub all_add_comm : (keys : FolderKeys) (places : List Place) (probe : ℕ) (columns : List ℕ) (xs ys : List Sum) → all_add_up keys places probe columns xs ys ≡ all_add_up keys places probe columns ys xs
all_add_comm keys places probe [] xs ys = refl
all_add_comm keys places probe (c ∷ columns) [] [] = refl
all_add_comm keys places probe (c ∷ columns) [] (b ∷ ys) = refl
all_add_comm keys places probe (c ∷ columns) (a ∷ xs) [] = refl
all_add_comm keys places probe (c ∷ columns) (a ∷ xs) (b ∷ ys) =
    λ i. checks.then_or (adds_comm keys places probe c a b i) (all_add_comm keys places (probe + 1) columns xs ys i)

pair_comm : (m c : ℕ) (us vs : List Bool) → IsPointPair m c us vs → IsPointPair m c vs us
pair_comm m c us vs is = record {
  lead_has = is.follow_has;
  follow_has = is.lead_has;
  differ = λ x h. bit_comm (get_or vs x false) (get_or us x false) ∙ is.differ x h;
}

pub pairs_comm : (m : ℕ) (columns : List ℕ) (xs ys : List (List Bool)) → ArePairs m columns xs ys → ArePairs m columns ys xs
pairs_comm m [] [] [] h = tt
pairs_comm m [] [] (b ∷ ys) h = absurd h
pairs_comm m [] (a ∷ xs) ys h = absurd h
pairs_comm m (c ∷ columns) [] ys h = absurd h
pairs_comm m (c ∷ columns) (a ∷ xs) [] h = absurd h
pairs_comm m (c ∷ columns) (a ∷ xs) (b ∷ ys) h = (h.0, pair_comm m c a b h.1, pairs_comm m columns xs ys h.2)

-- ---- the probes of both sides

abbrev pub boths : List ℕ → List (List Bool) → List (List Bool) → List Both
boths [] mine other = []
boths (c ∷ columns) [] other = []
boths (c ∷ columns) (m ∷ mine) [] = []
boths (c ∷ columns) (m ∷ mine) (o ∷ other) = record { column = c; mine = m; other = o } ∷ boths columns mine other

pub asked : (m : ℕ) (columns : List ℕ) (mine other : List (List Bool)) → ArePairs m columns mine other → AllByRecursion (HasPointPair m) (boths columns mine other)
asked m [] [] [] h = tt
asked m [] [] (o ∷ other) h = absurd h
asked m [] (x ∷ mine) other h = absurd h
asked m (c ∷ columns) [] other h = absurd h
asked m (c ∷ columns) (x ∷ mine) [] h = absurd h
asked m (c ∷ columns) (x ∷ mine) (o ∷ other) h = (record { within = h.0; pair = h.1 }, asked m columns mine other h.2)

pub probes_are : (m : ℕ) (columns : List ℕ) (mine other : List (List Bool)) → ArePairs m columns mine other → map other_of (boths columns mine other) ≡ probes_of columns other
probes_are m [] [] [] h = refl
probes_are m [] [] (o ∷ other) h = absurd h
probes_are m [] (x ∷ mine) other h = absurd h
probes_are m (c ∷ columns) [] other h = absurd h
probes_are m (c ∷ columns) (x ∷ mine) [] h = absurd h
probes_are m (c ∷ columns) (x ∷ mine) (o ∷ other) h = ap (λ (ps : List Probe). record { column = c; shares = o } ∷ ps) (probes_are m columns mine other h.2)

-- tags that add up at every probe
pub checked : (keys : FolderKeys) (m : ℕ) (slots : Slots) (probe : ℕ) (columns : List ℕ) (mine other : List (List Bool)) (given : List Sum) → ArePairs m columns mine other → length given ≡ length columns
    → AllByRecursion (IsSum (length (manifest_of slots))) given → all_add_up keys (manifest_of slots) probe columns (map (sum_of slots) mine) given ≡ Ok tt
    → AllZip (IsChecked (line_tag keys) slots) (boths columns mine other) given
checked keys m slots probe [] [] [] [] h n all is = tt
checked keys m slots probe [] [] [] (g ∷ given) h n all is = absurd (omega arith)
checked keys m slots probe [] [] (o ∷ other) given h n all is = absurd h
checked keys m slots probe [] (x ∷ mine) other given h n all is = absurd h
checked keys m slots probe (c ∷ columns) [] other given h n all is = absurd h
checked keys m slots probe (c ∷ columns) (x ∷ mine) [] given h n all is = absurd h
checked keys m slots probe (c ∷ columns) (x ∷ mine) (o ∷ other) [] h n all is = absurd (omega arith)
checked keys m slots probe (c ∷ columns) (x ∷ mine) (o ∷ other) (g ∷ given) h n all is =
    let both = all_add_ok keys (manifest_of slots) probe c columns (sum_of slots x) g (map (sum_of slots) mine) given tt is in
    (record { count = all.0.bits; adds = both.0 }, checked keys m slots (probe + 1) columns mine other given h.2 (omega arith) all.1 both.1)

-- bits that show the cells at every probe
shown : (m : ℕ) (slots : Slots) (columns : List ℕ) (mine other : List (List Bool)) (given : List Sum) → ArePairs m columns mine other → AllZip (IsShown slots) (boths columns mine other) given
    → crossed (map (sum_of slots) mine) given ≡ map (λ c. cells_at c (live_of slots)) columns
shown m slots [] [] [] given h all = none given
  where
    none : (gs : List Sum) → crossed [] gs ≡ []
    none gs = refl
shown m slots [] [] (o ∷ other) given h all = absurd h
shown m slots [] (x ∷ mine) other given h all = absurd h
shown m slots (c ∷ columns) [] other given h all = absurd h
shown m slots (c ∷ columns) (x ∷ mine) [] given h all = absurd h
shown m slots (c ∷ columns) (x ∷ mine) (o ∷ other) [] h all = absurd all
shown m slots (c ∷ columns) (x ∷ mine) (o ∷ other) (g ∷ given) h all = λ i. all.0 i ∷ shown m slots columns mine other given h.2 all.1 i

-- sums that are honest at every probe are an honest domain's
honest_sums : (m : ℕ) (slots : Slots) (columns : List ℕ) (mine other : List (List Bool)) (given : List Sum) → ArePairs m columns mine other → AllZip (IsHonest slots) (probes_of columns other) given
    → given ≡ map (sum_of slots) other
honest_sums m slots [] [] [] [] h all = refl
honest_sums m slots [] [] [] (g ∷ given) h all = absurd all
honest_sums m slots [] [] (o ∷ other) given h all = absurd h
honest_sums m slots [] (x ∷ mine) other given h all = absurd h
honest_sums m slots (c ∷ columns) [] other given h all = absurd h
honest_sums m slots (c ∷ columns) (x ∷ mine) [] given h all = absurd h
honest_sums m slots (c ∷ columns) (x ∷ mine) (o ∷ other) [] h all = absurd all
honest_sums m slots (c ∷ columns) (x ∷ mine) (o ∷ other) (g ∷ given) h all = λ i. all.0 i ∷ honest_sums m slots columns mine other given h.2 all.1 i

within : (m : ℕ) (columns : List ℕ) (mine other : List (List Bool)) → ArePairs m columns mine other → AllByRecursion (λ c. c < m) columns
within m [] mine other h = tt
within m (c ∷ columns) [] other h = absurd h
within m (c ∷ columns) (x ∷ mine) [] h = absurd h
within m (c ∷ columns) (x ∷ mine) (o ∷ other) h = (h.0, within m columns mine other h.2)

-- ---- what the cells list

-- the cell of the slot behind those in front
pick : (f : Live → Bool) (front : List Live) (l : Live) (ls : List Live) → get_or (map f (front ++ l ∷ ls)) (length front) false ≡ f l
pick f [] l ls = refl
pick f (x ∷ front) l ls = pick f front l ls

plain_at : (keys : FolderKeys) (e : Entry) (c : ℕ) → c < length (row_of e.change) → get_or (plain_of keys e) c false ≡ xor (get_or (row_of e.change) c false) (mask_bit_of keys e.doc e.id c)
plain_at keys e c h = get_or-map-range_with_len (λ j. xor (get_or (row_of e.change) j false) (mask_bit_of keys e.doc e.id j)) 0 (length (row_of e.change)) c c false h (omega arith)

picks : (keys : FolderKeys) (front : List Live) (l : Live) (ls : List Live) (columns : List ℕ) → AllByRecursion (λ c. c < length (row_of l.entry.change)) columns
    → is_line_listed keys columns (map (λ c. cells_at c (front ++ l ∷ ls)) columns) (length front) (place_of l) ≡ holds_all keys columns l
picks keys front l ls [] all = refl
picks keys front l ls (c ∷ columns) all =
    ap (λ (b : Bool). xor b (mask_bit_of keys l.entry.doc l.entry.id c) && is_line_listed keys columns (map (λ d. cells_at d (front ++ l ∷ ls)) columns) (length front) (place_of l))
    (pick (λ (x : Live). get_or (row_of x.entry.change) c false) front l ls)
    ∙ (λ i. sym (plain_at keys l.entry c all.0) i && picks keys front l ls columns all.1 i)

chosen : (b : Bool) (l : Live) (ls : List Live) → cond b (l.entry.doc.0 ∷ map (λ x. x.entry.doc.0) ls) (map (λ x. x.entry.doc.0) ls) ≡ map (λ x. x.entry.doc.0) (cond b (l ∷ ls) ls)
chosen true l ls = refl
chosen false l ls = refl

listing : (keys : FolderKeys) (tag : ℕ → Place → Bool → ℕ) (m : ℕ) (columns : List ℕ) → AllByRecursion (λ c. c < m) columns → (front ls : List Live) → AllByRecursion (IsTagged tag m) ls
    → listed_from keys columns (map (λ c. cells_at c (front ++ ls)) columns) (length front) (map place_of ls) ≡ map (λ l. l.entry.doc.0) (filter (holds_all keys columns) ls)
listing keys tag m columns all front [] tagged = refl
listing keys tag m columns all front (l ∷ ls) tagged =
    let bits = map (λ c. cells_at c (front ++ l ∷ ls)) columns in
    let one : length (front ++ l ∷ []) ≡ length front + 1 = length-append front (l ∷ []) in
    let same : (front ++ l ∷ []) ++ ls ≡ front ++ l ∷ ls = append_assoc front (l ∷ []) ls in
    let near : AllByRecursion (λ c. c < length (row_of l.entry.change)) columns = subst (λ (n : ℕ). AllByRecursion (λ c. c < n) columns) (sym tagged.0.cells) all in
    let rest : listed_from keys columns bits (length front + 1) (map place_of ls) ≡ map (λ x. x.entry.doc.0) (filter (holds_all keys columns) ls) =
    sym (λ i. listed_from keys columns (map (λ c. cells_at c (same i)) columns) (one i) (map place_of ls)) ∙ listing keys tag m columns all (front ++ l ∷ []) ls tagged.1 in
    ap (λ (b : Bool). cond b (l.entry.doc.0 ∷ listed_from keys columns bits (length front + 1) (map place_of ls)) (listed_from keys columns bits (length front + 1) (map place_of ls))) (picks keys front l ls columns near)
    ∙ ap (λ (ds : List ℕ). cond (holds_all keys columns l) (l.entry.doc.0 ∷ ds) ds) rest
    ∙ chosen (holds_all keys columns l) l (filter (holds_all keys columns) ls)

-- ---- the two ends

-- what is found at a version, and sums beside it that pass the checks
beside : (keys : FolderKeys) (shape : Dims) (history : List Entry) (version : ℕ) (word columns : List ℕ) (mine other : List (List Bool)) (given : List Sum) (docs : List ℕ)
    → IsSearch keys shape history version word columns mine other → length given ≡ length columns → AllByRecursion (IsSum (length (manifest_of (table_of (version_of version history))))) given
    → all_add_up keys (manifest_of (table_of (version_of version history))) 0 columns (map (sum_of (table_of (version_of version history))) mine) given ≡ Ok tt
    → IsRising (listed_from keys columns (crossed (map (sum_of (table_of (version_of version history))) mine) given) 0 (manifest_of (table_of (version_of version history)))) docs
    → (IsRising (matching keys history version (positions_of keys shape word)) docs × (given ≡ map (sum_of (table_of (version_of version history))) other)) ⊎ IsForgery keys history version columns other given
beside keys shape history version word columns mine other given docs search n all is rising =
    ⊎_elim
    (λ (f : IsForgeryOf (line_tag keys) slots (map other_of bs) given). inr (subst (λ (ps : List Probe). IsForgeryOf (line_tag keys) slots ps given) (probes_are (2 ^ shape.depth) columns mine other search.pairs) f))
    (λ (s : AllZip (IsHonest slots) (map other_of bs) given × AllZip (IsShown slots) bs given).
    let listed : listed_from keys columns (crossed (map (sum_of slots) mine) given) 0 (manifest_of slots) ≡ matching keys history version (positions_of keys shape word) =
    ap (λ (bits : List (List Bool)). listed_from keys columns bits 0 (manifest_of slots)) (shown (2 ^ shape.depth) slots columns mine other given search.pairs s.1)
    ∙ listing keys (line_tag keys) (2 ^ shape.depth) columns (within (2 ^ shape.depth) columns mine other search.pairs) [] (live_of slots) tagged
    ∙ ap (matching keys history version) search.columns_are in
    let honest : AllZip (IsHonest slots) (probes_of columns other) given =
    subst (λ (ps : List Probe). AllZip (IsHonest slots) ps given) (probes_are (2 ^ shape.depth) columns mine other search.pairs) s.0 in
    inl (subst (λ (ds : List ℕ). IsRising ds docs) listed rising, honest_sums (2 ^ shape.depth) slots columns mine other given search.pairs honest))
    (verified (line_tag keys) (2 ^ shape.depth) slots bs given tagged (asked (2 ^ shape.depth) columns mine other search.pairs) (checked keys (2 ^ shape.depth) slots 0 columns mine other given search.pairs n all is))
  where
    slots : Slots
    slots = table_of (version_of version history)

    bs : List Both
    bs = boths columns mine other

    tagged : AllByRecursion (IsTagged (line_tag keys) (2 ^ shape.depth)) (live_of (table_of (version_of version history)))
    tagged = all_tagged keys shape (version_of version history) (entries_taken shape version history search.history_is.entries) search.sealed

-- one frame has one found
pub same_in : (frame : List ℕ) (f g : Found) → IsFoundIn frame f → IsFoundIn frame g → f ≡ g
same_in frame f g (r, p, a) (s, q, b) = by r s (sym p ∙ q) a b
  where
    some_reply : Reply → Rattle.std.specs.Prelude.Option Reply
    some_reply x = Some x

    finds : Found → What
    finds x = Finds x

    by : (r s : Reply) → Some r ≡ Some s → r.what ≡ Finds f → s.what ≡ Finds g → f ≡ g
    by r s e a b = let same : r ≡ s = cc in let w : Finds f ≡ Finds g = sym a ∙ ap (λ (x : Reply). x.what) same ∙ b in cc

-- honest sums under this version and its manifest are all that an honest domain would have found
whole : (keys : FolderKeys) (history : List Entry) (version : ℕ) (columns : List ℕ) (other : List (List Bool)) (f : Found) (docs all : List ℕ)
    → f.version ≡ version → f.manifest ≡ manifest_of (table_of (version_of version history))
    → (IsRising all docs × (f.sums ≡ map (sum_of (table_of (version_of version history))) other)) ⊎ IsForgery keys history version columns other f.sums
    → (IsRising all docs × (f ≡ found_by history version other)) ⊎ IsForgery keys history version columns other f.sums
whole keys history version columns other f docs all named lines (inr forged) = inr forged
whole keys history version columns other f docs all named lines (inl (right, sums)) =
    inl (right, λ i. record { version = named i; manifest = lines i; sums = sums i })

-- the lead is honest
pub right_beside_lead : (keys : FolderKeys) (shape : Dims) (history : List Entry) (version seen : ℕ) (first second : AskId) (word columns : List ℕ) (mine other : List (List Bool)) (lead follow : List ℕ) (l f : Found) (answer : Answer)
    → IsSearch keys shape history version word columns mine other → IsBytes lead → IsBytes follow → IsFoundIn lead (found_by history version mine)
    → first_fault_of keys columns version seen first second lead follow ≡ Ok (l, f) → Lists keys columns version l f answer
    → (IsAnswer keys shape history version word answer.docs × (f ≡ found_by history version other)) ⊎ IsForgery keys history version columns other f.sums
right_beside_lead keys shape history version seen first second word columns mine other lead follow l f answer search lead_bytes follow_bytes honest is lists =
    let ok = checked_ok keys columns version seen first second lead follow l f lead_bytes follow_bytes is in
    let l_is : l ≡ found_by history version mine = same_in lead l (found_by history version mine) ok.found.in_lead honest in
    let lines : f.manifest ≡ manifest_of (table_of (version_of version history)) = sym ok.one.manifest ∙ ap (λ (x : Found). x.manifest) l_is in
    whole keys history version columns other f (numbers answer.docs) (matching keys history version (positions_of keys shape word)) ok.one.follow_version lines
    (beside keys shape history version word columns mine other f.sums (numbers answer.docs) search ok.one.follow_count
    (subst (λ (ps : List Place). AllByRecursion (IsSum (length ps)) f.sums) lines ok.found.follow_is.sums)
    (subst (λ (x : Found). all_add_up keys x.manifest 0 columns x.sums f.sums ≡ Ok tt) l_is ok.tags)
    (subst (λ (x : Found). IsRising (listed_from keys columns (crossed x.sums f.sums) 0 x.manifest) (numbers answer.docs)) l_is lists.docs))

-- the follower is honest
pub right_beside_follow : (keys : FolderKeys) (shape : Dims) (history : List Entry) (version seen : ℕ) (first second : AskId) (word columns : List ℕ) (other mine : List (List Bool)) (lead follow : List ℕ) (l f : Found) (answer : Answer)
    → IsSearch keys shape history version word columns other mine → IsBytes lead → IsBytes follow → IsFoundIn follow (found_by history version mine)
    → first_fault_of keys columns version seen first second lead follow ≡ Ok (l, f) → Lists keys columns version l f answer
    → (IsAnswer keys shape history version word answer.docs × (l ≡ found_by history version other)) ⊎ IsForgery keys history version columns other l.sums
right_beside_follow keys shape history version seen first second word columns other mine lead follow l f answer search lead_bytes follow_bytes honest is lists =
    let ok = checked_ok keys columns version seen first second lead follow l f lead_bytes follow_bytes is in
    let f_is : f ≡ found_by history version mine = same_in follow f (found_by history version mine) ok.found.in_follow honest in
    let lines : l.manifest ≡ manifest_of (table_of (version_of version history)) = ok.one.manifest ∙ ap (λ (x : Found). x.manifest) f_is in
    let swapped : IsSearch keys shape history version word columns mine other = record {
      history_is = search.history_is;
      sealed = search.sealed;
      columns_are = search.columns_are;
      pairs = pairs_comm (2 ^ shape.depth) columns other mine search.pairs;
    } in
    let tags : all_add_up keys (manifest_of (table_of (version_of version history))) 0 columns f.sums l.sums ≡ Ok tt =
    all_add_comm keys (manifest_of (table_of (version_of version history))) 0 columns f.sums l.sums ∙ subst (λ (ps : List Place). all_add_up keys ps 0 columns l.sums f.sums ≡ Ok tt) lines ok.tags in
    let docs : IsRising (listed_from keys columns (crossed f.sums l.sums) 0 (manifest_of (table_of (version_of version history)))) (numbers answer.docs) =
    subst (λ (bits : List (List Bool)). IsRising (listed_from keys columns bits 0 (manifest_of (table_of (version_of version history)))) (numbers answer.docs)) (crossed_comm l.sums f.sums)
    (subst (λ (ps : List Place). IsRising (listed_from keys columns (crossed l.sums f.sums) 0 ps) (numbers answer.docs)) lines lists.docs) in
    whole keys history version columns other l (numbers answer.docs) (matching keys history version (positions_of keys shape word)) ok.one.lead_version lines
    (beside keys shape history version word columns mine other l.sums (numbers answer.docs) swapped ok.one.lead_count
    (subst (λ (ps : List Place). AllByRecursion (IsSum (length ps)) l.sums) lines ok.found.lead_is.sums)
    (subst (λ (x : Found). all_add_up keys (manifest_of (table_of (version_of version history))) 0 columns x.sums l.sums ≡ Ok tt) f_is tags)
    (subst (λ (x : Found). IsRising (listed_from keys columns (crossed x.sums l.sums) 0 (manifest_of (table_of (version_of version history)))) (numbers answer.docs)) f_is docs))

-- the same of what the checks answer
pub answered_beside_lead : (keys : FolderKeys) (shape : Dims) (history : List Entry) (version seen : ℕ) (first second : AskId) (word columns : List ℕ) (mine other : List (List Bool)) (lead follow : List ℕ) (result : Result Answer VerifyError)
    → Verifies keys columns version result (first_fault_of keys columns version seen first second lead follow) → IsBytes lead → IsBytes follow
    → IsSearch keys shape history version word columns mine other → IsFoundIn lead (found_by history version mine)
    → IfOk result (λ answer. IsRightOrForged keys shape history version word columns other follow answer.docs)
answered_beside_lead keys shape history version seen first second word columns mine other lead follow (Err e) verifies lead_bytes follow_bytes search honest = tt
answered_beside_lead keys shape history version seen first second word columns mine other lead follow (Ok answer) (l, f, is, lists) lead_bytes follow_bytes search honest =
    ⊎_elim
    (λ (right : IsAnswer keys shape history version word answer.docs × (f ≡ found_by history version other)).
    inl (right.0, subst (IsFoundIn follow) right.1 (checked_ok keys columns version seen first second lead follow l f lead_bytes follow_bytes is).found.in_follow))
    (λ (forged : IsForgery keys history version columns other f.sums). inr (f, (checked_ok keys columns version seen first second lead follow l f lead_bytes follow_bytes is).found.in_follow, forged))
    (right_beside_lead keys shape history version seen first second word columns mine other lead follow l f answer search lead_bytes follow_bytes honest is lists)

pub answered_beside_follow : (keys : FolderKeys) (shape : Dims) (history : List Entry) (version seen : ℕ) (first second : AskId) (word columns : List ℕ) (other mine : List (List Bool)) (lead follow : List ℕ) (result : Result Answer VerifyError)
    → Verifies keys columns version result (first_fault_of keys columns version seen first second lead follow) → IsBytes lead → IsBytes follow
    → IsSearch keys shape history version word columns other mine → IsFoundIn follow (found_by history version mine)
    → IfOk result (λ answer. IsRightOrForged keys shape history version word columns other lead answer.docs)
answered_beside_follow keys shape history version seen first second word columns other mine lead follow (Err e) verifies lead_bytes follow_bytes search honest = tt
answered_beside_follow keys shape history version seen first second word columns other mine lead follow (Ok answer) (l, f, is, lists) lead_bytes follow_bytes search honest =
    ⊎_elim
    (λ (right : IsAnswer keys shape history version word answer.docs × (l ≡ found_by history version other)).
    inl (right.0, subst (IsFoundIn lead) right.1 (checked_ok keys columns version seen first second lead follow l f lead_bytes follow_bytes is).found.in_lead))
    (λ (forged : IsForgery keys history version columns other l.sums). inr (l, (checked_ok keys columns version seen first second lead follow l f lead_bytes follow_bytes is).found.in_lead, forged))
    (right_beside_follow keys shape history version seen first second word columns other mine lead follow l f answer search lead_bytes follow_bytes honest is lists)
