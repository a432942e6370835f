-- Over two links that tell the folder, a search whose version is alike at both is answered right, or a domain refuses.
use Rattle.std.proofs.Common.{◌≡◌, ℕ, ◌≤◌, ◌<◌, Bool, true, false, cond, List, length, map, Some, Result, Ok, Err, ap, refl, inl, inr, sym, ◌∙◌, subst, arith, [], ◌∷◌, None}
use Rattle.std.specs.Prelude.{nat_lt, filter, slice_index}
use Rattle.std.specs.List.{AllByRecursion}
use Rattle.dory_base.specs.Dims.{Dims}
use Rattle.dory_base.specs.declared.entry.Entry.{Entry}
use Rattle.dory_base.specs.declared.found.Found.{Found}
use Rattle.dory_base.specs.declared.ids.Side.{Side}
use Rattle.dory_base.specs.declared.ids.Side.TheVariants.{Lead, Follow}
use Rattle.dory_base.specs.declared.refusal.Refusal.{Refusal}
use Rattle.dory_base.specs.History.{IsHistory, version_of}
use Rattle.dory_base.specs.Sum.{sum_of}
use Rattle.dory_base.specs.Table.{live_of, manifest_of, table_of}
use Rattle.dory_bloom.specs.Positions.{positions_of}
use Rattle.dory_dpf.specs.PointKey.{shares_of}
use Rattle.dory_seal.specs.Seal.{IsSealed}
use Rattle.dory_wire.specs.declared.message.What.{What}
use Rattle.dory_wire.specs.declared.message.What.TheVariants.{At, Found as Finds, Refused}
use Rattle.dory_wire.specs.declared.message.Want.TheVariants.{Latest}
use Rattle.dory_wire.specs.Reading.{reply_in}
use Rattle.dory_wire.specs.Read.{found_of}
use Rattle.dory_link.specs.Told.{GrownFrom, Told, Heard}
use Rattle.dory_verify.specs.declared.answer.Answer.{Answer}
use Rattle.dory_verify.specs.declared.fault.CheckFault.{CheckFault}
use Rattle.dory_verify.specs.declared.fault.CheckFault.TheVariants as fault
use Rattle.dory_verify.specs.Answer.{IsAnswer, IsRising, holds_all, numbers}
use Rattle.dory_verify.specs.Checks.{first_fault_of, lengths_of}
use Rattle.dory_verify.specs.Forgery.{IsForgery}
use Rattle.dory_verify.specs.Honest.{IsFoundIn, IsRightOrForged, IsSearch, found_by, reply}
use Rattle.dory_verify.specs.Listing.{Lists}
use Rattle.dory_verify.proofs.Beside.{answered_beside_lead}
use Rattle.dory_verify.proofs.Honesty.{honest_is_no_forgery}
use Rattle.dory_verify.proofs.Passing.{lengths_pass, lead_refused, follow_refused, both_honest}
use Rattle.dory_state.specs.declared.kept.KeptState.{KeptState}
use Rattle.dory_state.specs.Spelling.{IsKeptState}
use Rattle.dory_member.specs.Course.{folder_keys, lesser, after_lengths, asking, ended_of, moved, outcome_at, run_after, took}
use Rattle.dory_drive.specs.Asked.{Exchanged}
use Rattle.dory_drive.specs.Way.{Links, links}
use Rattle.dory_drive.proofs.Pairs.{Denies, Holds, IsSearched, found_same, searched}
use Rattle.dory_client.specs.Complete.{AreAlike, AreFresh, BothTell, IsBetween, IsVersion, TellsFolder}
use Rattle.dory_client.specs.Sought.{ask_of, step_request, sought_columns, searching, sought_of}
use Rattle.dory_client.proofs.Course.{Lengths, Searched}
use Rattle.dory_client.proofs.Replied.{IsReadBy, longer, same_version, grown_told, read_by}
use Rattle.dory_client.proofs.Right.{is_search}
use Rattle.dory_member.specs.declared.outcome.Outcome.{Outcome}
use Rattle.dory_member.specs.declared.outcome.Outcome.TheVariants.{Lengths as LengthsAre}
use Rattle.dory_member.specs.declared.phase.Phase.TheVariants.{Measuring}
use Rattle.dory_member.specs.declared.phase.Run.{Run}
use Rattle.dory_client.specs.CommandEnds.{IsGood}
use Rattle.dory_client.specs.Way.{ExchangedInTurn}
use Rattle.dory_client.proofs.Searches.{both_asked}

-- ---- the lengths

-- what came to an ask for the length
length_told : (lead lead' : Heard) (k : KeptState) (step : ℕ) (frame : List ℕ) (x y : Told) → TellsFolder lead.folders k.folder.0 x → TellsFolder lead'.folders k.folder.0 y → Exchanged lead lead' (step_request k step Latest) frame
    → (n : ℕ) × (reply_in frame ≡ Some (reply (ask_of k step) (At n))) × IsBetween x y n
length_told lead lead' k step frame x y told told' ask =
    let r = read_by lead.folders lead'.folders x y (step_request k step Latest) frame tt told told' ask.replies in
    let what_is : r.what ≡ At (length r.history) = r.at.value in
    (length r.history, r.replied ∙ ap (λ (w : What). Some (reply (ask_of k step) w)) what_is, record { least = longer x.history r.history r.at.later; most = longer r.history y.history r.at.earlier })

-- the first pair fails no check
pub lengths_told : (k : KeptState) (a z : Links) (gave : Result (ℕ × ℕ) CheckFault) (t : BothTell k.folder.0 a) (u : BothTell k.folder.0 z) → AreFresh k.seen t.lead t.follow → Lengths a.lead z.lead a.follow z.follow k gave
    → (n : ℕ × ℕ) × (gave ≡ Ok n) × IsBetween t.lead u.lead n.0 × IsBetween t.follow u.follow n.1
lengths_told k a z gave t u fresh p =
    let l = length_told a.lead z.lead k 0 p.from_lead t.lead u.lead t.by_lead u.by_lead p.asked_lead in
    let f = length_told a.follow z.follow k 1 p.from_follow t.follow u.follow t.by_follow u.by_follow p.asked_follow in (
      (l.0, f.0),
      sym p.checked ∙ lengths_pass k.seen (ask_of k 0) (ask_of k 1) p.from_lead p.from_follow l.0 f.0 l.1 f.1 (omega (arith, fresh.lead_seen, l.2.least)) (omega (arith, fresh.follow_seen, f.2.least)),
      l.2,
      f.2,
    )

measured_good : (run : Run) (r : Result (ℕ × ℕ) CheckFault) (n : ℕ × ℕ) (frames : List (List ℕ)) (a z : Links) (o : Outcome) → r ≡ Ok n → ExchangedInTurn (moved run (after_lengths run None r)) frames a z → outcome_at (run_after (moved run (after_lengths run None r)) frames).phase ≡ Some o → IsGood o
measured_good run (Err f) n frames a z o e went is = absurd (cc)
measured_good run (Ok m) n [] a z o e went is = let same : LengthsAre m.0 m.1 run.kept.seen ≡ o = cc in subst IsGood same (λ f failed. cc)
measured_good run (Ok m) n (g ∷ frames) a z o e went is = absurd went.1

-- two lengths that are told and aren't older than what was seen fail no check
pub lengths_good : (k : KeptState) (seed : List ℕ) (frames : List (List ℕ)) (a z : Links) (o : Outcome) (t : BothTell k.folder.0 a) → AreFresh k.seen t.lead t.follow → ExchangedInTurn (asking k seed k.used (Measuring None None)) frames a z
    → ended_of (asking k seed k.used (Measuring None None)) frames ≡ Some o → IsGood o
lengths_good k seed [] a z o t fresh went is = absurd (cc)
lengths_good k seed (f ∷ []) a z o t fresh went is = absurd (cc)
lengths_good k seed (f ∷ g ∷ frames) a z o t fresh (m, (ask, same), (n, (other, ask'), more)) is =
    let gave : Result (ℕ × ℕ) CheckFault = lengths_of k.seen (ask_of k 0) (ask_of k 1) f g in
    let both : Lengths a.lead n.lead a.follow n.follow k gave =
    both_asked a m n (step_request k 0 Latest) (step_request k 1 Latest) f g (lengths_of k.seen (ask_of k 0) (ask_of k 1)) gave ask same other ask' refl in
    let x = grown_told a.lead.folders n.lead.folders k.folder.0 t.lead t.by_lead both.asked_lead.grown in
    let y = grown_told a.follow.folders n.follow.folders k.folder.0 t.follow t.by_follow both.asked_follow.grown in
    let told = lengths_told k a n gave t (record { lead = x.0; follow = y.0; by_lead = x.1; by_follow = y.1 }) fresh both in
    measured_good (took (asking k seed k.used (Measuring None None)) f) gave told.0 frames n z o told.1 more is

-- ---- both replies

-- what the checks of both replies give: a domain's refusal, or what lists the answer
pub data Judged (k : KeptState) (word : List ℕ) (version : ℕ) (told : Told) (gave : Result (Found × Found) CheckFault) : Type 0 where
  Refuses : (side : Side) (code : Refusal) → gave ≡ Err (fault.Refused side code) → Judged k word version told gave
  Answers : (both : Found × Found) → gave ≡ Ok both → ((answer : Answer) → Lists (folder_keys k) (sought_columns k word) version both.0 both.1 answer → IsAnswer (folder_keys k) k.shape told.history version word answer.docs) → Judged k word version told gave

-- two frames that answer a search of one version
record Replies (k : KeptState) (seed word : List ℕ) (version : ℕ) (told : Told) (lead follow : List ℕ) (w w' : What) : Type 0 where
  pub kept : IsKeptState k
  pub fresh : k.seen ≤ version
  pub history : List Entry
  pub other_history : List Entry
  pub is : IsHistory k.shape history
  pub sealed : AllByRecursion (IsSealed (folder_keys k)) (version_of version history)
  pub one : version_of version other_history ≡ version_of version history
  pub shown : version_of version told.history ≡ version_of version history
  pub in_lead : reply_in lead ≡ Some (reply (ask_of k 2) w)
  pub in_follow : reply_in follow ≡ Some (reply (ask_of k 3) w')
  pub found : w ≡ Finds (found_of history version (sought_of k seed word).lead)
  pub other_found : w' ≡ Finds (found_of other_history version (sought_of k seed word).follow)
  pub lead_bytes : (i : ℕ) → slice_index lead i < 256
  pub follow_bytes : (i : ℕ) → slice_index follow i < 256

-- the answer at a version is that of its entries
answer_of : (k : KeptState) (word : List ℕ) (version : ℕ) (a b : List Entry) (answer : Answer) → version_of version a ≡ version_of version b → IsAnswer (folder_keys k) k.shape b version word answer.docs → IsAnswer (folder_keys k) k.shape a version word answer.docs
answer_of k word version a b answer same is =
    subst (λ (es : List Entry). IsRising (map (λ l. l.entry.doc.0) (filter (holds_all (folder_keys k) (positions_of (folder_keys k) k.shape word)) (live_of (table_of es)))) (numbers answer.docs)) (sym same) is

abbrev found_in : List Entry → ℕ → List (List Bool) → Found
found_in entries version shares = record { version = version; manifest = manifest_of (table_of entries); sums = map (sum_of (table_of entries)) shares }

same_found : (frame : List ℕ) (w : What) (f g : Found) (ask : _) → reply_in frame ≡ Some (reply ask w) → w ≡ Finds g → IsFoundIn frame f → g ≡ f
same_found frame w f g ask replied e (r, is, what_is) = cc

both_found : (k : KeptState) (seed word : List ℕ) (version : ℕ) (told : Told) (lead follow : List ℕ) (w w' : What) (gave : Result (Found × Found) CheckFault) → first_fault_of (folder_keys k) (sought_columns k word) version k.seen (ask_of k 2) (ask_of k 3) lead follow ≡ gave
    → Replies k seed word version told lead follow w w' → Judged k word version told gave
both_found k seed word version told lead follow w w' gave checked c = Answers (mine, theirs) (sym checked ∙ passes) answers
  where
    shares : List (List Bool)
    shares = map shares_of (sought_of k seed word).lead

    others : List (List Bool)
    others = map shares_of (sought_of k seed word).follow

    mine : Found
    mine = found_by c.history version shares

    theirs : Found
    theirs = found_by c.other_history version others

    lead_is : w ≡ Finds mine
    lead_is = c.found ∙ ap (λ (f : Found). Finds f) (found_same c.history version (sought_of k seed word).lead)

    follow_is : w' ≡ Finds theirs
    follow_is = c.other_found ∙ ap (λ (f : Found). Finds f) (found_same c.other_history version (sought_of k seed word).follow)

    search : IsSearch (folder_keys k) k.shape c.history version word (sought_columns k word) shares others
    search = is_search k seed word c.history version c.kept c.is c.sealed

    passes : first_fault_of (folder_keys k) (sought_columns k word) version k.seen (ask_of k 2) (ask_of k 3) lead follow ≡ Ok (mine, theirs)
    passes = both_honest (folder_keys k) k.shape c.history c.other_history version k.seen (ask_of k 2) (ask_of k 3) word (sought_columns k word) shares others lead follow search c.one c.fresh
        (c.in_lead ∙ ap (λ (v : What). Some (reply (ask_of k 2) v)) lead_is) (c.in_follow ∙ ap (λ (v : What). Some (reply (ask_of k 3) v)) follow_is)

    answers : (answer : Answer) → Lists (folder_keys k) (sought_columns k word) version mine theirs answer → IsAnswer (folder_keys k) k.shape told.history version word answer.docs
    answers answer lists = answer_of k word version told.history c.history answer c.shown (right beside)
      where
        beside : IsRightOrForged (folder_keys k) k.shape c.history version word (sought_columns k word) others follow answer.docs
        beside = answered_beside_lead (folder_keys k) k.shape c.history version k.seen (ask_of k 2) (ask_of k 3) word (sought_columns k word) shares others lead follow (Ok answer) (mine, theirs, passes, lists) c.lead_bytes c.follow_bytes search
            (reply (ask_of k 2) (Finds mine), c.in_lead ∙ ap (λ (v : What). Some (reply (ask_of k 2) v)) lead_is, refl)

        right : IsRightOrForged (folder_keys k) k.shape c.history version word (sought_columns k word) others follow answer.docs → IsAnswer (folder_keys k) k.shape c.history version word answer.docs
        right (inl (is, found)) = is
        right (inr (f, came, forged)) =
            let same : found_by c.history version others ≡ f = sym (ap (λ (es : List Entry). found_in es version others) c.one) ∙ same_found follow w' f theirs (ask_of k 3) c.in_follow follow_is came in
            absurd (honest_is_no_forgery (folder_keys k) c.history version (sought_columns k word) others (subst (λ (g : Found). IsForgery (folder_keys k) c.history version (sought_columns k word) others g.sums) (sym same) forged))

-- ---- a whole search

abbrev ok_lengths : ℕ × ℕ → Result (ℕ × ℕ) CheckFault
ok_lengths n = Ok n

lesser_fresh : (seen n m : ℕ) → seen ≤ n → seen ≤ m → seen ≤ lesser n m
lesser_fresh seen n m l l' = by (nat_lt n m)
  where
    by : (b : Bool) → seen ≤ cond b n m
    by true = l
    by false = l'

-- the version that it asked for, and what its checks give where the entries up to it are alike
pub search_judged : (k : KeptState) (seed word : List ℕ) (a z : Links) (version : ℕ) (gave : Result (Found × Found) CheckFault) (t : BothTell k.folder.0 a) (u : BothTell k.folder.0 z) → IsKeptState k → AreFresh k.seen t.lead t.follow
    → Searched a.lead z.lead a.follow z.follow k (sought_of k seed word) version gave → IsVersion t.lead u.lead t.follow u.follow version × (AreAlike k u.lead u.follow version → Judged k word version u.lead gave)
search_judged k seed word a z version gave t u kept fresh s = (asked, by r.what p.what r.replied p.replied (searched k.shape x.0.shape x.0.retained r.history version _ r.what r.at.value) (searched k.shape y.0.shape y.0.retained p.history version _ p.what p.at.value))
  where
    m : Links
    m = links s.lead_between s.follow_between

    x : (w : Told) × TellsFolder s.lead_between.folders k.folder.0 w × GrownFrom t.lead w
    x = grown_told a.lead.folders s.lead_between.folders k.folder.0 t.lead t.by_lead s.first.asked_lead.grown

    y : (w : Told) × TellsFolder s.follow_between.folders k.folder.0 w × GrownFrom t.follow w
    y = grown_told a.follow.folders s.follow_between.folders k.folder.0 t.follow t.by_follow s.first.asked_follow.grown

    n : (l : ℕ × ℕ) × (ok_lengths s.lengths ≡ Ok l) × IsBetween t.lead x.0 l.0 × IsBetween t.follow y.0 l.1
    n = lengths_told k a m (Ok s.lengths) t (record { lead = x.0; follow = y.0; by_lead = x.1; by_follow = y.1 }) fresh s.first

    r : IsReadBy x.0 u.lead (searching k 2 version (sought_of k seed word).lead) s.second.from_lead
    r = read_by s.lead_between.folders z.lead.folders x.0 u.lead (searching k 2 version (sought_of k seed word).lead) s.second.from_lead tt x.1 u.by_lead s.second.asked_lead.replies

    p : IsReadBy y.0 u.follow (searching k 3 version (sought_of k seed word).follow) s.second.from_follow
    p = read_by s.follow_between.folders z.follow.folders y.0 u.follow (searching k 3 version (sought_of k seed word).follow) s.second.from_follow tt y.1 u.by_follow s.second.asked_follow.replies

    smaller : version ≡ lesser n.0.0 n.0.1
    smaller = let same : s.lengths ≡ n.0 = let e : ok_lengths s.lengths ≡ ok_lengths n.0 = n.1 in cc in s.smaller ∙ ap (λ (l : ℕ × ℕ). lesser l.0 l.1) same

    asked : IsVersion t.lead u.lead t.follow u.follow version
    asked = record {
      lengths = n.0;
      of_lead = record { least = n.2.least; most = omega (arith, n.2.most, longer x.0.history r.history r.at.later, longer r.history u.lead.history r.at.earlier) };
      of_follow = record { least = n.3.least; most = omega (arith, n.3.most, longer y.0.history p.history p.at.later, longer p.history u.follow.history p.at.earlier) };
      smaller = smaller;
    }

    by : (w w' : What) → reply_in s.second.from_lead ≡ Some (reply (ask_of k 2) w) → reply_in s.second.from_follow ≡ Some (reply (ask_of k 3) w') → IsSearched k.shape x.0.shape r.history version (sought_of k seed word).lead w → IsSearched k.shape y.0.shape p.history version (sought_of k seed word).follow w'
        → AreAlike k u.lead u.follow version → Judged k word version u.lead gave
    by w w' in_lead in_follow (Denies code e) (Denies other e') alike = Refuses Lead code (sym s.second.checked
        ∙ lead_refused (folder_keys k) (sought_columns k word) version k.seen (ask_of k 2) (ask_of k 3) _ _ code (Refused other) (in_lead ∙ ap (λ (v : What). Some (reply (ask_of k 2) v)) e) (in_follow ∙ ap (λ (v : What). Some (reply (ask_of k 3) v)) e') refl)
    by w w' in_lead in_follow (Denies code e) (Holds one few e') alike = Refuses Lead code (sym s.second.checked
        ∙ lead_refused (folder_keys k) (sought_columns k word) version k.seen (ask_of k 2) (ask_of k 3) _ _ code (Finds _) (in_lead ∙ ap (λ (v : What). Some (reply (ask_of k 2) v)) e) (in_follow ∙ ap (λ (v : What). Some (reply (ask_of k 3) v)) e') refl)
    by w w' in_lead in_follow (Holds one few e) (Denies code e') alike = Refuses Follow code (sym s.second.checked
        ∙ follow_refused (folder_keys k) (sought_columns k word) version k.seen (ask_of k 2) (ask_of k 3) _ _ _ code (in_lead ∙ ap (λ (v : What). Some (reply (ask_of k 2) v)) e) (in_follow ∙ ap (λ (v : What). Some (reply (ask_of k 3) v)) e'))
    by w w' in_lead in_follow (Holds one few e) (Holds one' few' e') alike =
        let shown : version_of version u.lead.history ≡ version_of version r.history = same_version r.history u.lead.history version few r.at.earlier in
        both_found k seed word version u.lead s.second.from_lead s.second.from_follow w w' gave s.second.checked (record {
          kept = kept;
          fresh = subst (λ (v : ℕ). k.seen ≤ v) (sym smaller) (lesser_fresh k.seen n.0.0 n.0.1 (omega (arith, fresh.lead_seen, n.2.least)) (omega (arith, fresh.follow_seen, n.3.least)));
          history = r.history;
          other_history = p.history;
          is = subst (λ (d : Dims). IsHistory d r.history) (sym one) r.at.is;
          sealed = subst (λ (es : List Entry). AllByRecursion (IsSealed (folder_keys k)) es) shown alike.sealed;
          one = sym (same_version p.history u.follow.history version few' p.at.earlier) ∙ sym alike.agree ∙ shown;
          shown = shown;
          in_lead = in_lead;
          in_follow = in_follow;
          found = e;
          other_found = e';
          lead_bytes = s.second.asked_lead.are_bytes;
          follow_bytes = s.second.asked_follow.are_bytes;
        })
