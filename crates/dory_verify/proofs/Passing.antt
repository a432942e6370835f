-- The first fault of replies that answer their asks: none of a pair of lengths or of two honest domains, and of a search the refusal.
use Rattle.std.proofs.Common.{◌≡◌, ℕ, ◌+◌, ◌≤◌, ◌^◌, Bool, true, cond, List, [], ◌∷◌, length, map, Some, Ok, Err, ap, refl, sym, ◌∙◌, arith, le-ltb}
use Rattle.std.specs.Prelude.{◌==◌, ◌&&◌, bit_xor}
use Rattle.std.specs.List.{AllByRecursion}
use Rattle.std.proofs.lemmas.Bool.{eq-eqb}
use Rattle.dory_base.proofs.SameLaws.{same_id_refl}
use Rattle.dory_base.specs.Dims.{Dims}
use Rattle.dory_base.specs.declared.entry.Entry.{Entry}
use Rattle.dory_base.specs.declared.ids.Side.{Side}
use Rattle.dory_base.specs.declared.ids.Side.TheVariants.{Lead, Follow}
use Rattle.dory_base.specs.declared.ids.AskId.{AskId}
use Rattle.dory_base.specs.declared.found.Place.{Place}
use Rattle.dory_base.specs.declared.found.Sum.{Sum}
use Rattle.dory_base.specs.declared.found.Found.{Found}
use Rattle.dory_base.specs.declared.refusal.Refusal.{Refusal}
use Rattle.dory_base.specs.History.{version_of}
use Rattle.dory_base.specs.Table.{Slots, live_of, manifest_of, table_of}
use Rattle.dory_base.specs.Sum.{sum_of}
use Rattle.dory_hmac.specs.declared.folder_keys.FolderKeys.{FolderKeys}
use Rattle.dory_query.specs.Pairs.{ArePairs}
use Rattle.dory_wire.specs.declared.message.What.{What}
use Rattle.dory_wire.specs.declared.message.What.TheVariants.{At, Found as Finds, Refused}
use Rattle.dory_wire.specs.Reading.{reply_in}
use Rattle.dory_verify.specs.declared.fault.CheckFault.TheVariants as fault
use Rattle.dory_verify.specs.declared.reply.Allowed.TheVariants as allowed
use Rattle.dory_verify.specs.Tags.{xor_bits, line_tag, tag_sum}
use Rattle.dory_verify.specs.SideBySide.{IsTagged}
use Rattle.dory_verify.specs.Honest.{reply, found_by, IsSearch}
use Rattle.dory_verify.specs.Checks.{◌>>=◌, is_allowed, form, echo, found_given, not_stale, same_version, same_place, same_manifest, counted, adds_up, all_add_up, lengths_of, both_found, of_one_version, first_fault_of}
use Rattle.dory_verify.proofs.FormLaws.{bind_is, bind_err, form_is, echo_is}
use Rattle.dory_verify.proofs.Shifts.{sums_add}
use Rattle.dory_verify.proofs.Tagged.{all_tagged, entries_taken}

-- ---- Form, Echo and Stale

fresh_is : (side : Side) (seen n : ℕ) → seen ≤ n → not_stale side seen n ≡ Ok tt
fresh_is side seen n l = ap (λ b. cond b (Err (fault.Stale side n seen)) (Ok tt)) (le-ltb n seen l)

-- two lengths that aren't older than what was seen pass
pub lengths_pass : (seen : ℕ) (first second : AskId) (lead follow : List ℕ) (n m : ℕ) → reply_in lead ≡ Some (reply first (At n)) → reply_in follow ≡ Some (reply second (At m)) → seen ≤ n → seen ≤ m → lengths_of seen first second lead follow ≡ Ok (n, m)
unfolding lengths_of
lengths_pass seen first second lead follow n m r s l l' =
    bind_is (form Lead allowed.At lead) (reply first (At n)) _ _ (form_is Lead allowed.At lead (reply first (At n)) r refl)
    (bind_is (form Follow allowed.At follow) (reply second (At m)) _ _ (form_is Follow allowed.At follow (reply second (At m)) s refl)
    (bind_is (echo Lead first (reply first (At n))) tt _ _ (echo_is Lead first (At n))
    (bind_is (echo Follow second (reply second (At m))) tt _ _ (echo_is Follow second (At m))
    (bind_is (not_stale Lead seen n) tt _ _ (fresh_is Lead seen n l)
    (bind_is (not_stale Follow seen m) tt _ _ (fresh_is Follow seen m l') refl)))))

-- ---- what a search finds, or is refused

-- two allowed kinds pass Form and Echo
answers_are : (first second : AskId) (lead follow : List ℕ) (v w : What) → reply_in lead ≡ Some (reply first v) → reply_in follow ≡ Some (reply second w) → is_allowed allowed.Found v ≡ true → is_allowed allowed.Found w ≡ true
    → both_found first second lead follow ≡ (found_given Lead v >>= (λ l. found_given Follow w >>= (λ f. Ok (l, f))))
unfolding both_found
answers_are first second lead follow v w r s lead_allowed follow_allowed =
    bind_is (form Lead allowed.Found lead) (reply first v) _ _ (form_is Lead allowed.Found lead (reply first v) r lead_allowed)
    (bind_is (form Follow allowed.Found follow) (reply second w) _ _ (form_is Follow allowed.Found follow (reply second w) s follow_allowed)
    (bind_is (echo Lead first (reply first v)) tt _ _ (echo_is Lead first v)
    (bind_is (echo Follow second (reply second w)) tt _ _ (echo_is Follow second w) refl)))

-- the lead's refusal is the first fault
pub lead_refused : (keys : FolderKeys) (columns : List ℕ) (version seen : ℕ) (first second : AskId) (lead follow : List ℕ) (code : Refusal) (w : What)
    → reply_in lead ≡ Some (reply first (Refused code)) → reply_in follow ≡ Some (reply second w) → is_allowed allowed.Found w ≡ true → first_fault_of keys columns version seen first second lead follow ≡ Err (fault.Refused Lead code)
unfolding first_fault_of
lead_refused keys columns version seen first second lead follow code w r s allowed =
    bind_err (both_found first second lead follow) (fault.Refused Lead code) _ (answers_are first second lead follow (Refused code) w r s refl allowed)

-- the follower's refusal is the first fault where the lead found
pub follow_refused : (keys : FolderKeys) (columns : List ℕ) (version seen : ℕ) (first second : AskId) (lead follow : List ℕ) (f : Found) (code : Refusal)
    → reply_in lead ≡ Some (reply first (Finds f)) → reply_in follow ≡ Some (reply second (Refused code)) → first_fault_of keys columns version seen first second lead follow ≡ Err (fault.Refused Follow code)
unfolding first_fault_of
follow_refused keys columns version seen first second lead follow f code r s =
    bind_err (both_found first second lead follow) (fault.Refused Follow code) _ (answers_are first second lead follow (Finds f) (Refused code) r s refl refl)

-- ---- Version, Manifest and Count

version_is : (side : Side) (asked : ℕ) (f : Found) → f.version ≡ asked → same_version side asked f ≡ Ok tt
version_is side asked f e = ap (λ b. cond b (Ok tt) (Err (fault.Version side asked f.version))) (ap (λ n. n == asked) e ∙ eq-eqb asked asked refl)

same_line : (p : Place) → same_place p p ≡ true
same_line p = λ i. (eq-eqb p.slot p.slot refl i && eq-eqb p.doc.0 p.doc.0 refl i) && same_id_refl p.id i

manifest_is : (at : ℕ) (lines : List Place) → same_manifest at lines lines ≡ Ok tt
manifest_is at [] = refl
manifest_is at (p ∷ lines) = ap (λ b. cond b (same_manifest (at + 1) lines lines) (Err (fault.Manifest at))) (same_line p) ∙ manifest_is (at + 1) lines

count_is : (side : Side) (want : ℕ) (f : Found) → length f.sums ≡ want → counted side want f ≡ Ok tt
count_is side want f e = ap (λ b. cond b (Ok tt) (Err (fault.Count side (length f.sums) want))) (ap (λ n. n == want) e ∙ eq-eqb want want refl)

lead_counts : (m : ℕ) (slots : Slots) (columns : List ℕ) (mine other : List (List Bool)) → ArePairs m columns mine other → length (map (sum_of slots) mine) ≡ length columns
lead_counts m slots [] [] other h = refl
lead_counts m slots [] (x ∷ mine) other h = absurd h
lead_counts m slots (c ∷ columns) [] other h = absurd h
lead_counts m slots (c ∷ columns) (x ∷ mine) [] h = absurd h
lead_counts m slots (c ∷ columns) (x ∷ mine) (o ∷ other) h = omega (arith, lead_counts m slots columns mine other h.2)

follow_counts : (m : ℕ) (slots : Slots) (columns : List ℕ) (mine other : List (List Bool)) → ArePairs m columns mine other → length (map (sum_of slots) other) ≡ length columns
follow_counts m slots [] [] [] h = refl
follow_counts m slots [] [] (o ∷ other) h = absurd h
follow_counts m slots [] (x ∷ mine) other h = absurd h
follow_counts m slots (c ∷ columns) [] other h = absurd h
follow_counts m slots (c ∷ columns) (x ∷ mine) [] h = absurd h
follow_counts m slots (c ∷ columns) (x ∷ mine) (o ∷ other) h = omega (arith, follow_counts m slots columns mine other h.2)

-- ---- TagSum

pub adds_is : (keys : FolderKeys) (places : List Place) (probe column : ℕ) (l f : Sum) → bit_xor l.tag f.tag ≡ tag_sum keys column places (xor_bits l.bits f.bits) → adds_up keys places probe column l f ≡ Ok tt
adds_is keys places probe column l f e =
    let want = tag_sum keys column places (xor_bits l.bits f.bits) in
    ap (λ b. cond b (Ok tt) (Err (fault.TagSum probe (bit_xor l.tag f.tag) want))) (ap (λ n. n == want) e ∙ eq-eqb want want refl)

-- the sums of one table for a pair of shares at each column pass
all_add : (keys : FolderKeys) (m : ℕ) (slots : Slots) (probe : ℕ) (columns : List ℕ) (mine other : List (List Bool)) → AllByRecursion (IsTagged (line_tag keys) m) (live_of slots) → ArePairs m columns mine other
    → all_add_up keys (manifest_of slots) probe columns (map (sum_of slots) mine) (map (sum_of slots) other) ≡ Ok tt
all_add keys m slots probe [] [] [] tagged h = refl
all_add keys m slots probe [] [] (o ∷ other) tagged h = absurd h
all_add keys m slots probe [] (x ∷ mine) other tagged h = absurd h
all_add keys m slots probe (c ∷ columns) [] other tagged h = absurd h
all_add keys m slots probe (c ∷ columns) (x ∷ mine) [] tagged h = absurd h
all_add keys m slots probe (c ∷ columns) (x ∷ mine) (o ∷ other) tagged h =
    bind_is (adds_up keys (manifest_of slots) probe c (sum_of slots x) (sum_of slots o)) tt _ _
    (adds_is keys (manifest_of slots) probe c (sum_of slots x) (sum_of slots o) (sums_add (line_tag keys) m c slots x o tagged h.0 h.1))
    (all_add keys m slots (probe + 1) columns mine other tagged h.2)

-- ---- two honest domains

-- two that found by one table pass Version, Stale, Manifest and Count
one_version_is : (probes version seen : ℕ) (l f : Found) → l.version ≡ version → f.version ≡ version → seen ≤ version → f.manifest ≡ l.manifest → length l.sums ≡ probes → length f.sums ≡ probes
    → of_one_version probes version seen l f ≡ Ok tt
unfolding of_one_version
one_version_is probes version seen l f lead_version follow_version fresh lines lead_count follow_count =
    bind_is (same_version Lead version l) tt _ _ (version_is Lead version l lead_version)
    (bind_is (same_version Follow version f) tt _ _ (version_is Follow version f follow_version)
    (bind_is (not_stale Lead seen version) tt _ _ (fresh_is Lead seen version fresh)
    (bind_is (same_manifest 0 l.manifest f.manifest) tt _ _ (ap (same_manifest 0 l.manifest) lines ∙ manifest_is 0 l.manifest)
    (bind_is (counted Lead probes l) tt _ _ (count_is Lead probes l lead_count)
    (count_is Follow probes f follow_count)))))

-- what two domains find by one history
same_honest : (keys : FolderKeys) (shape : Dims) (history : List Entry) (version seen : ℕ) (first second : AskId) (word columns : List ℕ) (mine other : List (List Bool)) (lead follow : List ℕ)
    → IsSearch keys shape history version word columns mine other → seen ≤ version
    → reply_in lead ≡ Some (reply first (Finds (found_by history version mine))) → reply_in follow ≡ Some (reply second (Finds (found_by history version other)))
    → first_fault_of keys columns version seen first second lead follow ≡ Ok (found_by history version mine, found_by history version other)
unfolding first_fault_of
same_honest keys shape history version seen first second word columns mine other lead follow search fresh r s =
    bind_is (both_found first second lead follow) (l, f) _ _ (answers_are first second lead follow (Finds l) (Finds f) r s refl refl)
    (bind_is (of_one_version (length columns) version seen l f) tt _ _ (one_version_is (length columns) version seen l f refl refl fresh refl (lead_counts m slots columns mine other search.pairs) (follow_counts m slots columns mine other search.pairs))
    (bind_is (all_add_up keys (manifest_of slots) 0 columns l.sums f.sums) tt _ _ (all_add keys m slots 0 columns mine other tagged search.pairs) refl))
  where
    m : ℕ
    m = 2 ^ shape.depth

    slots : Slots
    slots = table_of (version_of version history)

    l : Found
    l = found_by history version mine

    f : Found
    f = found_by history version other

    tagged : AllByRecursion (IsTagged (line_tag keys) (2 ^ shape.depth)) (live_of (table_of (version_of version history)))
    tagged = all_tagged keys shape (version_of version history) (entries_taken shape version history search.history_is.entries) search.sealed

-- the entries of a version are all that what is found there depends on
abbrev found_in : List Entry → ℕ → List (List Bool) → Found
found_in entries version shares = record { version = version; manifest = manifest_of (table_of entries); sums = map (sum_of (table_of entries)) shares }

-- the replies of two honest domains with one sealed version pass every check
pub both_honest : (keys : FolderKeys) (shape : Dims) (history other_history : List Entry) (version seen : ℕ) (first second : AskId) (word columns : List ℕ) (mine other : List (List Bool)) (lead follow : List ℕ)
    → IsSearch keys shape history version word columns mine other → version_of version other_history ≡ version_of version history → seen ≤ version
    → reply_in lead ≡ Some (reply first (Finds (found_by history version mine))) → reply_in follow ≡ Some (reply second (Finds (found_by other_history version other)))
    → first_fault_of keys columns version seen first second lead follow ≡ Ok (found_by history version mine, found_by other_history version other)
both_honest keys shape history other_history version seen first second word columns mine other lead follow search one fresh r s =
    let same : found_by other_history version other ≡ found_by history version other = ap (λ (es : List Entry). found_in es version other) one in
    same_honest keys shape history version seen first second word columns mine other lead follow search fresh r (s ∙ ap (λ (x : Found). Some (reply second (Finds x))) same)
    ∙ ap (λ (x : Found). Ok (found_by history version mine, x)) (sym same)
