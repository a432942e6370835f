-- Beside an honest reply the tags add up exactly where the other's are shifted by both tags of each line that they flip.
use Rattle.std.proofs.Common.{◌≡◌, ℕ, ◌+◌, ◌^◌, Bool, List, [], ◌∷◌, length, map, Ok, refl, ap, sym, ◌∙◌, subst, arith}
use Rattle.std.specs.Prelude.{◌↔◌}
use Rattle.std.specs.List.{AllByRecursion, AllZip}
use Rattle.dory_base.specs.Dims.{Dims}
use Rattle.dory_base.specs.declared.entry.Entry.{Entry}
use Rattle.dory_base.specs.declared.ids.AskId.{AskId}
use Rattle.dory_base.specs.declared.found.Place.{Place}
use Rattle.dory_base.specs.declared.found.Sum.{Sum}
use Rattle.dory_base.specs.declared.found.Found.{Found}
use Rattle.dory_base.specs.History.{version_of}
use Rattle.dory_base.specs.Table.{Slots, live_of, manifest_of, table_of}
use Rattle.dory_base.specs.Sum.{sum_of}
use Rattle.dory_hmac.specs.declared.folder_keys.FolderKeys.{FolderKeys}
use Rattle.dory_fields.specs.Bytes.{IsBytes}
use Rattle.dory_wire.specs.Spelling.{IsSum}
use Rattle.dory_query.specs.Pairs.{ArePairs}
use Rattle.dory_verify.specs.Tags.{line_tag}
use Rattle.dory_verify.specs.Forgery.{Probe, IsShifted, probes_of}
use Rattle.dory_verify.specs.Honest.{found_by, IsSearch}
use Rattle.dory_verify.specs.SideBySide.{IsTagged}
use Rattle.dory_verify.specs.Checks.{adds_up, all_add_up, both_found, of_one_version, first_fault_of}
use Rattle.dory_verify.proofs.Shifts.{all_shifted, adds_where_shifted}
use Rattle.dory_verify.proofs.Tagged.{all_tagged, entries_taken}
use Rattle.dory_verify.proofs.CheckLaws.{AreFound, AreOfOne, both_ok, one_version_ok, checked_ok}
use Rattle.dory_verify.proofs.FormLaws.{bind_is}
use Rattle.dory_verify.proofs.Passing.{adds_is}
use Rattle.dory_verify.proofs.Beside.{all_add_comm, pairs_comm, boths, asked, probes_are, checked}

-- sums that are shifted so add up beside honest ones
shifted_add : (keys : FolderKeys) (m : ℕ) (slots : Slots) (probe : ℕ) (columns : List ℕ) (mine other : List (List Bool)) (given : List Sum) → AllByRecursion (IsTagged (line_tag keys) m) (live_of slots) → ArePairs m columns mine other
    → length given ≡ length columns → AllByRecursion (IsSum (length (manifest_of slots))) given → AllZip (IsShifted (line_tag keys) slots) (probes_of columns other) given
    → all_add_up keys (manifest_of slots) probe columns (map (sum_of slots) mine) given ≡ Ok tt
shifted_add keys m slots probe [] [] [] given tagged h n all shifted = refl
shifted_add keys m slots probe [] [] (o ∷ other) given tagged h n all shifted = absurd h
shifted_add keys m slots probe [] (x ∷ mine) other given tagged h n all shifted = absurd h
shifted_add keys m slots probe (c ∷ columns) [] other given tagged h n all shifted = absurd h
shifted_add keys m slots probe (c ∷ columns) (x ∷ mine) [] given tagged h n all shifted = absurd h
shifted_add keys m slots probe (c ∷ columns) (x ∷ mine) (o ∷ other) [] tagged h n all shifted = absurd (omega arith)
shifted_add keys m slots probe (c ∷ columns) (x ∷ mine) (o ∷ other) (g ∷ given) tagged h n all shifted =
    bind_is (adds_up keys (manifest_of slots) probe c (sum_of slots x) g) tt _ _
    (adds_is keys (manifest_of slots) probe c (sum_of slots x) g
    (adds_where_shifted (line_tag keys) m c slots x (let p : Probe = record { column = c; shares = o } in p) g tagged refl h.0 h.1 all.0.bits shifted.0))
    (shifted_add keys m slots (probe + 1) columns mine other given tagged h.2 (omega arith) all.1 shifted.1)

-- honest sums and others beside them: the tags add up exactly where the others' are shifted
decided : (keys : FolderKeys) (shape : Dims) (history : List Entry) (version : ℕ) (word columns : List ℕ) (mine other : List (List Bool)) (given : List Sum) → IsSearch keys shape history version word columns mine other
    → length given ≡ length columns → AllByRecursion (IsSum (length (manifest_of (table_of (version_of version history))))) given
    → (all_add_up keys (manifest_of (table_of (version_of version history))) 0 columns (map (sum_of (table_of (version_of version history))) mine) given ≡ Ok tt)
    ↔ AllZip (IsShifted (line_tag keys) (table_of (version_of version history))) (probes_of columns other) given
decided keys shape history version word columns mine other given search n all = (there, shifted_add keys m slots 0 columns mine other given tagged search.pairs n all)
  where
    m : ℕ
    m = 2 ^ shape.depth

    slots : Slots
    slots = table_of (version_of version history)

    tagged : AllByRecursion (IsTagged (line_tag keys) (2 ^ shape.depth)) (live_of (table_of (version_of version history)))
    tagged = all_tagged keys shape (version_of version history) (entries_taken shape version history search.history_is.entries) search.sealed

    there : all_add_up keys (manifest_of (table_of (version_of version history))) 0 columns (map (sum_of (table_of (version_of version history))) mine) given ≡ Ok tt
        → AllZip (IsShifted (line_tag keys) (table_of (version_of version history))) (probes_of columns other) given
    there is =
        subst (λ (ps : List Probe). AllZip (IsShifted (line_tag keys) slots) ps given) (probes_are m columns mine other search.pairs)
        (all_shifted (line_tag keys) m slots (boths columns mine other) given tagged (asked m columns mine other search.pairs) (checked keys m slots 0 columns mine other given search.pairs n all is))

-- after the checks before the tags, the tags are what is left
left_to_tags : (keys : FolderKeys) (columns : List ℕ) (version seen : ℕ) (first second : AskId) (lead follow : List ℕ) (l f : Found)
    → both_found first second lead follow ≡ Ok (l, f) → of_one_version (length columns) version seen l f ≡ Ok tt
    → all_add_up keys l.manifest 0 columns l.sums f.sums ≡ Ok tt → first_fault_of keys columns version seen first second lead follow ≡ Ok (l, f)
unfolding first_fault_of
left_to_tags keys columns version seen first second lead follow l f found one tags =
    bind_is (both_found first second lead follow) (l, f) _ _ found
    (bind_is (of_one_version (length columns) version seen l f) tt _ _ one
    (bind_is (all_add_up keys l.manifest 0 columns l.sums f.sums) tt _ _ tags refl))

-- the lead is honest
pub decided_beside_lead : (keys : FolderKeys) (shape : Dims) (history : List Entry) (version seen : ℕ) (first second : AskId) (word columns : List ℕ) (mine other : List (List Bool)) (lead follow : List ℕ) (f : Found)
    → IsSearch keys shape history version word columns mine other → IsBytes lead → IsBytes follow
    → both_found first second lead follow ≡ Ok (found_by history version mine, f) → of_one_version (length columns) version seen (found_by history version mine) f ≡ Ok tt
    → (first_fault_of keys columns version seen first second lead follow ≡ Ok (found_by history version mine, f))
    ↔ AllZip (IsShifted (line_tag keys) (table_of (version_of version history))) (probes_of columns other) f.sums
decided_beside_lead keys shape history version seen first second word columns mine other lead follow f search lead_bytes follow_bytes found one =
    let l : Found = found_by history version mine in
    let are : AreFound lead follow l f = both_ok first second lead follow (l, f) lead_bytes follow_bytes found in
    let same : AreOfOne (length columns) version seen l f = one_version_ok (length columns) version seen l f tt one in
    let decides = decided keys shape history version word columns mine other f.sums search same.follow_count
    (subst (λ (ps : List Place). AllByRecursion (IsSum (length ps)) f.sums) (sym same.manifest) are.follow_is.sums) in (
      λ is. decides.0 (checked_ok keys columns version seen first second lead follow l f lead_bytes follow_bytes is).tags,
      λ shifted. left_to_tags keys columns version seen first second lead follow l f found one (decides.1 shifted),
    )

-- the follower is honest
pub decided_beside_follow : (keys : FolderKeys) (shape : Dims) (history : List Entry) (version seen : ℕ) (first second : AskId) (word columns : List ℕ) (other mine : List (List Bool)) (lead follow : List ℕ) (l : Found)
    → IsSearch keys shape history version word columns other mine → IsBytes lead → IsBytes follow
    → both_found first second lead follow ≡ Ok (l, found_by history version mine) → of_one_version (length columns) version seen l (found_by history version mine) ≡ Ok tt
    → (first_fault_of keys columns version seen first second lead follow ≡ Ok (l, found_by history version mine))
    ↔ AllZip (IsShifted (line_tag keys) (table_of (version_of version history))) (probes_of columns other) l.sums
decided_beside_follow keys shape history version seen first second word columns other mine lead follow l search lead_bytes follow_bytes found one =
    let f : Found = found_by history version mine in
    let are : AreFound lead follow l f = both_ok first second lead follow (l, f) lead_bytes follow_bytes found in
    let same : AreOfOne (length columns) version seen l f = one_version_ok (length columns) version seen l f tt one in
    let swapped : IsSearch keys shape history version word columns mine other = record {
      history_is = search.history_is;
      sealed = search.sealed;
      columns_are = search.columns_are;
      pairs = pairs_comm (2 ^ shape.depth) columns other mine search.pairs;
    } in
    let decides = decided keys shape history version word columns mine other l.sums swapped same.lead_count
    (subst (λ (ps : List Place). AllByRecursion (IsSum (length ps)) l.sums) same.manifest are.lead_is.sums) in
    let turned : all_add_up keys l.manifest 0 columns l.sums f.sums ≡ all_add_up keys f.manifest 0 columns f.sums l.sums =
    ap (λ (ps : List Place). all_add_up keys ps 0 columns l.sums f.sums) same.manifest ∙ all_add_comm keys f.manifest 0 columns l.sums f.sums in (
      λ is. decides.0 (sym turned ∙ (checked_ok keys columns version seen first second lead follow l f lead_bytes follow_bytes is).tags),
      λ shifted. left_to_tags keys columns version seen first second lead follow l f found one (turned ∙ decides.1 shifted),
    )
