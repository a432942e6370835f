-- An accepted search is right by the history of each honest domain, or the other domain's frame is the forgery.
use Rattle.std.proofs.Common.{◌≡◌, ℕ, zero, suc, ◌+◌, ◌-◌, ◌≤◌, ◌<◌, ◌^◌, Bool, true, false, cond, List, [], ◌∷◌, ◌++◌, length, map, take, replicate, refl, ap, sym, ◌∙◌, arith, subst, ◌⊎◌, inl, inr}
use Rattle.std.specs.Prelude.{Option, Some, None, Result, Ok, Err, nat_le, nat_lt, ◌&&◌, if◌then◌else◌, slice_get}
use Rattle.std.specs.List.{AllByRecursion}
use Rattle.std.proofs.lemmas.Bool.Decides.{nat_tests}
use Rattle.std.proofs.lemmas.List.FromFn.{length-map-range_with_len}
use Rattle.dory_base.specs.Dims.{Dims, same_shape}
use Rattle.dory_base.specs.History.{IsHistory, version_of}
use Rattle.dory_base.specs.Step.{State}
use Rattle.dory_base.specs.Sum.{sum_of}
use Rattle.dory_base.specs.Table.{manifest_of, table_of}
use Rattle.dory_base.specs.declared.entry.Change.TheVariants as change
use Rattle.dory_base.specs.declared.entry.Entry.{Entry}
use Rattle.dory_base.specs.declared.found.Found.{Found}
use Rattle.dory_base.specs.declared.found.Sum.{Sum}
use Rattle.dory_base.specs.declared.ids.AskId.{AskId}
use Rattle.dory_base.specs.declared.ids.MemberId.{MemberId}
use Rattle.dory_base.specs.declared.ids.Side.{Side}
use Rattle.dory_base.specs.declared.ids.Side.TheVariants.{Lead, Follow}
use Rattle.dory_base.specs.declared.refusal.Refusal.TheVariants as refusal
use Rattle.dory_base.proofs.StepLaws.{history_is}
use Rattle.dory_bloom.specs.Positions.{positions_of}
use Rattle.dory_dpf.specs.PointKey.{PointKey, shares_of}
use Rattle.dory_fields.specs.Bytes.{IsBytes}
use Rattle.dory_hmac.specs.FolderKeys.{keys_of}
use Rattle.dory_hmac.specs.declared.folder_keys.FolderKeys.{FolderKeys}
use Rattle.dory_query.specs.Columns.{asked_columns}
use Rattle.dory_query.specs.Pairs.{ArePairs}
use Rattle.dory_query.specs.declared.query.Query.{Query}
use Rattle.dory_query.proofs.KeyList.{front_is, pairs_of, within}
use Rattle.dory_seal.specs.Seal.{IsSealed}
use Rattle.dory_wire.specs.Read.{found_of, oldest_of}
use Rattle.dory_wire.specs.Reading.{reply_in}
use Rattle.dory_wire.specs.Spelling.{what_kind}
use Rattle.dory_wire.specs.StepReply.{answer_of}
use Rattle.dory_wire.specs.declared.message.Reply.{Reply}
use Rattle.dory_wire.specs.declared.message.Want.{Want}
use Rattle.dory_wire.specs.declared.message.Want.TheVariants.{Search}
use Rattle.dory_wire.specs.declared.message.What.{What}
use Rattle.dory_wire.specs.declared.message.What.TheVariants.{At, Found as Finds, Id, Staged, Committed, Refused}
use Rattle.dory_verify.specs.Checks.{◌>>=◌, all_add_up, both_found, echo, first_fault_of, form, found_given, of_one_version, same_ask}
use Rattle.dory_verify.specs.Honest.{IsSearch, found_by}
use Rattle.dory_verify.specs.Listing.{Lists}
use Rattle.dory_verify.specs.declared.answer.Answer.{Answer}
use Rattle.dory_verify.specs.declared.fault.CheckFault.{CheckFault}
use Rattle.dory_verify.specs.declared.fault.CheckFault.TheVariants as check
use Rattle.dory_verify.specs.declared.reply.Allowed.TheVariants as allowed
use Rattle.dory_verify.proofs.Beside.{answered_beside_follow, answered_beside_lead}
use Rattle.dory_verify.proofs.CheckLaws.{checked_ok}
use Rattle.dory_verify.proofs.FormLaws.{bind_ok, echo_ok, form_came}
use Rattle.dory_state.specs.declared.kept.KeptState.{KeptState}
use Rattle.dory_member.specs.declared.command.Command.{Command}
use Rattle.dory_member.specs.declared.outcome.Fault.{Fault}
use Rattle.dory_member.specs.declared.outcome.Fault.TheVariants as fault
use Rattle.dory_member.specs.declared.outcome.Mark.{Mark}
use Rattle.dory_member.specs.declared.outcome.Outcome.{Outcome}
use Rattle.dory_member.specs.declared.outcome.Outcome.TheVariants.{Accepted, NothingPending, Rotated, Failed}
use Rattle.dory_member.specs.declared.phase.Phase.{Phase}
use Rattle.dory_member.specs.declared.phase.Phase.TheVariants.{Updating, Measuring, Searching, Ended}
use Rattle.dory_member.specs.declared.phase.Run.{Run}
use Rattle.dory_member.specs.declared.phase.UpdateStep.{UpdateStep}
use Rattle.dory_member.specs.declared.phase.UpdateStep.TheVariants.{StageFollow, StageLead, OrderLead, FollowOn, WhichOther, FollowOther}
use Rattle.dory_member.specs.Course.{Ask, after_fault, after_lengths, after_mark, after_refused, after_search, after_update, answer_by, asks, entry_of, fails, folder_keys, name, new_update, phase_after, query_of, side_of, single_of, to, updated}
use Rattle.dory_member.specs.Draw.{epoch_in, ready, turned}
use Rattle.dory_member.specs.Single.{confirmed}
use Rattle.dory_member.proofs.Queries.{lists_answer}
use Rattle.dory_run.specs.declared.event.Event.{Event}
use Rattle.dory_run.specs.declared.event.Honest.{Honest}
use Rattle.dory_run.specs.declared.line.WorldLine.TheVariants as line
use Rattle.dory_run.specs.declared.setup.Setup.{Setup}
use Rattle.dory_run.specs.Happening.{Happened, lies, line_of, refusal_in}
use Rattle.dory_run.specs.Kept.{IsGood, IsPhase, IsPutRight, IsRunning, IsStation, IsStored}
use Rattle.dory_run.specs.Law.{AcceptsRight, IsMade, IsRight, IsRightBy, by_side, other}
use Rattle.dory_run.specs.Named.{AskAt, From, FrameFrom, IsNamed, IsNamedMessage, IsNamedPhase, IsNamedRun, IsNamedStation, SearchedBy, asked_as, to_follow, to_lead}
use Rattle.dory_run.specs.Run.{Moment}
use Rattle.dory_run.specs.Start.{keys_in}
use Rattle.dory_run.specs.World.{Busy, Replied, World, folder_of}
use Rattle.dory_run.proofs.Good.{sealed_made}
use Rattle.dory_run.proofs.Lists.{all_get, all_map, some_at}
use Rattle.dory_run.proofs.Moves.{Moves, Begins, Carries, Lies, Quits, Refuses, Returns, moves}
use Rattle.dory_run.proofs.Names.{same_ask-true}
use Rattle.dory_run.proofs.Starts.{Measures, Posts, Removes, Rests, Resumes, Rotates, Searches, Starts, starts}

-- ---- two frames that passed

pub record Heard (first second : AskId) (lead follow : List ℕ) (l f : Found) : Type 0 where
  pub lead_reply : Reply
  pub follow_reply : Reply
  pub lead_came : reply_in lead ≡ Some lead_reply
  pub follow_came : reply_in follow ≡ Some follow_reply
  pub lead_echo : same_ask lead_reply.ask first ≡ true
  pub follow_echo : same_ask follow_reply.ask second ≡ true
  pub lead_says : lead_reply.what ≡ Finds l
  pub follow_says : follow_reply.what ≡ Finds f

found_is : (side : Side) (w : What) (f : Found) → found_given side w ≡ Ok f → w ≡ Finds f
found_is side (Finds g) f e = let w : g ≡ f = cc in ap (λ (x : Found). Finds x) w
found_is side (At n) f e = absurd (cc)
found_is side (Id k i) f e = absurd (cc)
found_is side (Staged i) f e = absurd (cc)
found_is side (Committed k i) f e = absurd (cc)
found_is side (Refused c) f e = absurd (cc)

abbrev ok_both : Found × Found → Result (Found × Found) CheckFault
ok_both p = Ok p

both_is : (p q : Found × Found) → ok_both p ≡ ok_both q → p ≡ q
both_is p q e = cc

heard_both : (first second : AskId) (lead follow : List ℕ) (both : Found × Found) → both_found first second lead follow ≡ Ok both → Heard first second lead follow both.0 both.1
unfolding both_found
heard_both first second lead follow both e =
    let a = bind_ok (form Lead allowed.Found lead) _ both e in
    let b = bind_ok (form Follow allowed.Found follow) _ both a.2 in
    let c = bind_ok (echo Lead first a.0) _ both b.2 in
    let d = bind_ok (echo Follow second b.0) _ both c.2 in
    let x = bind_ok (found_given Lead a.0.what) _ both d.2 in
    let y = bind_ok (found_given Follow b.0.what) _ both x.2 in
    let z = both_is (x.0, y.0) both y.2 in
    record {
      lead_reply = a.0;
      follow_reply = b.0;
      lead_came = form_came Lead allowed.Found lead a.0 a.1;
      follow_came = form_came Follow allowed.Found follow b.0 b.1;
      lead_echo = echo_ok Lead first a.0 c.0 c.1;
      follow_echo = echo_ok Follow second b.0 d.0 d.1;
      lead_says = found_is Lead a.0.what x.0 x.1 ∙ ap (λ (p : Found × Found). Finds p.0) z;
      follow_says = found_is Follow b.0.what y.0 y.1 ∙ ap (λ (p : Found × Found). Finds p.1) z;
    }

last_two : (r t : Result (Unit {0}) CheckFault) (p q : Found × Found) → (r >>= (λ a. t >>= (λ b. ok_both p))) ≡ ok_both q → p ≡ q
last_two (Ok a) (Ok b) p q e = cc
last_two (Ok a) (Err f) p q e = absurd (cc)
last_two (Err f) t p q e = absurd (cc)

pub heard_pair : (keys : FolderKeys) (columns : List ℕ) (version seen : ℕ) (first second : AskId) (lead follow : List ℕ) (both : Found × Found) → first_fault_of keys columns version seen first second lead follow ≡ Ok both
    → Heard first second lead follow both.0 both.1
unfolding first_fault_of
heard_pair keys columns version seen first second lead follow both e =
    let a = bind_ok (both_found first second lead follow) _ both e in
    let z = last_two (of_one_version (length columns) version seen a.0.0 a.0.1) (all_add_up keys a.0.0.manifest 0 columns a.0.0.sums a.0.1.sums) a.0 both a.2 in
    subst (λ (p : Found × Found). Heard first second lead follow p.0 p.1) z (heard_both first second lead follow a.0 a.1)

-- ---- what an honest domain found

-- the version of a history is that of each later one
take_front : (v : ℕ) (h more : List Entry) → v ≤ length h → take v (h ++ more) ≡ take v h
take_front zero h more le = refl
take_front (suc v) [] more le = absurd (omega (arith, le))
take_front (suc v) (e ∷ h) more le = ap (λ (l : List Entry). e ∷ l) (take_front v h more (omega (arith, le)))

sums_same : {A B C : Type 0} (f : B → C) (g : A → B) (xs : List A) → map (λ x. f (g x)) xs ≡ map f (map g xs)
sums_same f g [] = refl
sums_same f g (x ∷ xs) = ap (λ ys. f (g x) ∷ ys) (sums_same f g xs)

found_same : (history : List Entry) (number : ℕ) (keys : List PointKey) → found_of history number keys ≡ found_by history number (map shares_of keys)
found_same history number keys =
    ap (λ (sums : List Sum). record { version = number; manifest = manifest_of (table_of (version_of number history)); sums = sums })
    (sums_same (sum_of (table_of (version_of number history))) shares_of keys)

record IsFoundAt (history : List Entry) (number : ℕ) (keys : List PointKey) (l : Found) : Type 0 where
  pub committed : number ≤ length history
  pub found : l ≡ found_by history number (map shares_of keys)

in_range : (a b c : ℕ) → (nat_le a b && nat_le b c) ≡ true → b ≤ c
in_range a b c h = grind (arith, nat_tests)

finds_is : (x y : Found) → Finds x ≡ Finds y → x ≡ y
finds_is x y e = cc

found_now : (h more history : List Entry) (number : ℕ) (keys : List PointKey) (l : Found) → history ≡ h ++ more → number ≤ length h → l ≡ found_of h number keys → IsFoundAt history number keys l
found_now h more history number keys l is le e =
    let front : version_of number history ≡ version_of number h = ap (take number) is ∙ take_front number h more le in
    let now : found_of history number keys ≡ found_of h number keys =
    ap (λ (part : List Entry). record { version = number; manifest = manifest_of (table_of part); sums = map (λ key. sum_of (table_of part) (shares_of key)) keys }) front in
    record {
      committed = omega (arith, le, ap length is, Rattle.std.proofs.Common.length-append h more);
      found = e ∙ sym now ∙ found_same history number keys;
    }

searched : (f : State) (number : ℕ) (asked : Dims) (keys : List PointKey) (what : What) (l : Found) → what ≡ Finds l → SearchedBy f (Search number asked keys) what → IsFoundAt f.history number keys l
searched f number asked keys what l says (h, p, is) = by (same_shape asked f.shape) (sym is ∙ says)
  where
    inner : (b : Bool) → (nat_le (oldest_of f.retained (length h)) number && nat_le number (length h)) ≡ b
        → ◌≡◌ {A = What} (cond b (Finds (found_of h number keys)) (Refused (refusal.Unretained (oldest_of f.retained (length h)) (length h)))) (Finds l) → IsFoundAt f.history number keys l
    inner true t e = found_now h p.0 f.history number keys l p.1 (in_range (oldest_of f.retained (length h)) number (length h) t) (sym (finds_is (found_of h number keys) l e))
    inner false t e = absurd (cc)

    by : (b : Bool) → ◌≡◌ {A = What} (cond b (cond (nat_le (oldest_of f.retained (length h)) number && nat_le number (length h)) (Finds (found_of h number keys)) (Refused (refusal.Unretained (oldest_of f.retained (length h)) (length h)))) (Refused (refusal.ShapeWrong f.shape.depth f.shape.probes))) (Finds l)
        → IsFoundAt f.history number keys l
    by true e = inner (nat_le (oldest_of f.retained (length h)) number && nat_le number (length h)) refl e
    by false e = absurd (cc)

some_reply : (x y : Reply) → ◌≡◌ {A = Option Reply} (Some x) (Some y) → x ≡ y
some_reply x y e = cc

some_ask : (x y : Ask) → ◌≡◌ {A = Option Ask} (Some x) (Some y) → x ≡ y
some_ask x y e = cc

-- an honest domain's reply to this ask is what it found
honest_found : (w : World) (run : Run) (side : Side) (step : ℕ) (number : ℕ) (asked : Dims) (keys : List PointKey) (frame : List ℕ) (r : Reply) (l : Found)
    → reply_in frame ≡ Some r → same_ask r.ask (name run step) ≡ true → r.what ≡ Finds l → AskAt w run step (to side (Search number asked keys)) → From w.messages (folder_of w side) side frame
    → IsFoundAt (folder_of w side).history number keys l
honest_found w run side step number asked keys frame r l came echoes says put f =
    let one : f.reply ≡ r = some_reply f.reply r (sym f.came ∙ came) in
    let named : f.reply.ask ≡ name run step = ap (λ (x : Reply). x.ask) one ∙ same_ask-true r.ask (name run step) echoes in
    let put' : asked_as w.messages (name run step) ≡ Some (to side f.want) = subst (λ (n : AskId). asked_as w.messages n ≡ Some (to side f.want)) named f.put in
    let want : f.want ≡ Search number asked keys = ap (λ (a : Ask). a.want) (some_ask (to side f.want) (to side (Search number asked keys)) (sym put' ∙ put)) in
    searched (folder_of w side) number asked keys f.reply.what l (ap (λ (x : Reply). x.what) one ∙ says) (subst (λ (x : Want). SearchedBy (folder_of w side) x f.reply.what) want f.tells.searched)

-- ---- the query

columns_are : (run : Run) (word : List ℕ) (version : ℕ) → asked_columns (query_of run word version) ≡ positions_of (folder_keys run.kept) run.kept.shape word
columns_are run word version =
    front_is run.kept.shape.probes (query_of run word version).word_columns (positions_of (folder_keys run.kept) run.kept.shape word) (replicate (8 - run.kept.shape.probes) 0) refl
    (sym (length-map-range_with_len _ 0 run.kept.shape.probes))

pairs_are : (run : Run) (word : List ℕ) (version : ℕ) → 7 ≤ run.kept.shape.depth
    → ArePairs (2 ^ run.kept.shape.depth) (positions_of (folder_keys run.kept) run.kept.shape word) (map shares_of (query_of run word version).lead_keys) (map shares_of (query_of run word version).follow_keys)
pairs_are run word version deep = pairs_of run.kept.shape.depth run.seed run.serial 0 (positions_of (folder_keys run.kept) run.kept.shape word) deep (within _ run.kept.shape.depth 0 run.kept.shape.probes)

-- ---- an accepted pair

taken : {A : Type 0} (P : A → Type 0) (n : ℕ) (xs : List A) → AllByRecursion P xs → AllByRecursion P (take n xs)
taken P zero xs all = tt
taken P (suc n) [] all = tt
taken P (suc n) (x ∷ xs) all = (all.0, taken P n xs all.1)

-- a search's two frames as they came, and what is known of them
record IsAccepted (h : Honest) (s : Setup) (w : World) (made : List Entry) (m : ℕ) (run : Run) (q : Query) (word lead frame : List ℕ) (both : Found × Found) : Type 0 where
  pub kept : IsStored s made m run.kept
  pub asked : q ≡ query_of run word q.version
  pub lead_put : AskAt w run 2 (to_lead q)
  pub follow_put : AskAt w run 3 (to_follow q)
  pub from_lead : FrameFrom h w Lead lead
  pub from_follow : FrameFrom h w Follow frame
  pub lead_bytes : IsBytes lead
  pub follow_bytes : IsBytes frame
  pub passed : first_fault_of (folder_keys run.kept) (asked_columns q) q.version run.kept.seen (name run 2) (name run 3) lead frame ≡ Ok both

module _ (h : Honest) (s : Setup) (w : World) (made : List Entry) (m : ℕ) (run : Run) (q : Query) (word lead frame : List ℕ) (both : Found × Found)
    (g : IsGood s w made) (a : IsAccepted h s w made m run q word lead frame both) where
  keys_same : folder_keys run.kept ≡ keys_in s
  keys_same = λ i. keys_of (a.kept.master i) (a.kept.folder i).0

  positions_same : positions_of (folder_keys run.kept) run.kept.shape word ≡ (positions_of (keys_in s) s.shape word)
  positions_same = λ i. positions_of (keys_same i) (a.kept.shape i) word

  columns_same : asked_columns q ≡ (positions_of (keys_in s) s.shape word)
  columns_same = ap asked_columns a.asked ∙ columns_are run word q.version ∙ positions_same

  passed_here : first_fault_of (keys_in s) (positions_of (keys_in s) s.shape word) q.version run.kept.seen (name run 2) (name run 3) lead frame ≡ Ok both
  passed_here = sym (λ i. first_fault_of (keys_same i) (columns_same i) q.version run.kept.seen (name run 2) (name run 3) lead frame) ∙ a.passed

  lists_here : Lists (keys_in s) (positions_of (keys_in s) s.shape word) q.version both.0 both.1 (answer_by (folder_keys run.kept) q both.0 both.1)
  lists_here =
      subst (λ (k : FolderKeys). Lists k (positions_of (keys_in s) s.shape word) q.version both.0 both.1 (answer_by (folder_keys run.kept) q both.0 both.1)) keys_same
      (subst (λ (c : List ℕ). Lists (folder_keys run.kept) c q.version both.0 both.1 (answer_by (folder_keys run.kept) q both.0 both.1)) columns_same (lists_answer (folder_keys run.kept) q both.0 both.1))

  pairs_here : ArePairs (2 ^ s.shape.depth) (positions_of (keys_in s) s.shape word) (map shares_of q.lead_keys) (map shares_of q.follow_keys)
  pairs_here =
      subst (λ (d : Dims). ArePairs (2 ^ d.depth) (positions_of (keys_in s) s.shape word) (map shares_of q.lead_keys) (map shares_of q.follow_keys)) a.kept.shape
      (subst (λ (c : List ℕ). ArePairs (2 ^ run.kept.shape.depth) c (map shares_of q.lead_keys) (map shares_of q.follow_keys)) positions_same
      (subst (λ (p : Query). ArePairs (2 ^ run.kept.shape.depth) (positions_of (folder_keys run.kept) run.kept.shape word) (map shares_of p.lead_keys) (map shares_of p.follow_keys)) (sym a.asked)
      (pairs_are run word q.version (omega (arith, a.kept.state.shape.low)))))

  search_here : (side : Side) → IsSearch (keys_in s) s.shape (folder_of w side).history q.version word (positions_of (keys_in s) s.shape word) (map shares_of q.lead_keys) (map shares_of q.follow_keys)
  search_here side =
      let f = g.folders side in
      record {
        history_is = subst (λ (d : Dims). IsHistory d (folder_of w side).history) f.shape (history_is (folder_of w side) f.held.state);
        sealed = taken (IsSealed (keys_in s)) q.version (folder_of w side).history (all_map (IsMade made) (IsSealed (keys_in s)) (folder_of w side).history (sealed_made s w made g) f.history);
        columns_are = refl;
        pairs = pairs_here;
      }

  heard_here : Heard (name run 2) (name run 3) lead frame both.0 both.1
  heard_here = heard_pair (keys_in s) (positions_of (keys_in s) s.shape word) q.version run.kept.seen (name run 2) (name run 3) lead frame both passed_here

  right_beside : (side : Side) → lies h side ≡ false → IsRightBy s q word (answer_by (folder_keys run.kept) q both.0 both.1) (folder_of w side).history (other side) (by_side lead frame (other side))
  right_beside Lead honest =
      let k = heard_here in
      let at = honest_found w run Lead 2 q.version q.shape q.lead_keys lead k.lead_reply both.0 k.lead_came k.lead_echo k.lead_says a.lead_put (a.from_lead honest) in
      record {
        committed = at.committed;
        right = answered_beside_lead (keys_in s) s.shape w.lead.history q.version run.kept.seen (name run 2) (name run 3) word (positions_of (keys_in s) s.shape word) (map shares_of q.lead_keys) (map shares_of q.follow_keys) lead frame (Ok (answer_by (folder_keys run.kept) q both.0 both.1))
            (both.0, both.1, passed_here, lists_here) a.lead_bytes a.follow_bytes (search_here Lead) (k.lead_reply, k.lead_came, k.lead_says ∙ ap (λ (x : Found). Finds x) at.found);
      }
  right_beside Follow honest =
      let k = heard_here in
      let at = honest_found w run Follow 3 q.version q.shape q.follow_keys frame k.follow_reply both.1 k.follow_came k.follow_echo k.follow_says a.follow_put (a.from_follow honest) in
      record {
        committed = at.committed;
        right = answered_beside_follow (keys_in s) s.shape w.follow.history q.version run.kept.seen (name run 2) (name run 3) word (positions_of (keys_in s) s.shape word) (map shares_of q.lead_keys) (map shares_of q.follow_keys) lead frame (Ok (answer_by (folder_keys run.kept) q both.0 both.1))
            (both.0, both.1, passed_here, lists_here) a.lead_bytes a.follow_bytes (search_here Follow) (k.follow_reply, k.follow_came, k.follow_says ∙ ap (λ (x : Found). Finds x) at.found);
      }

  fresh_here : run.kept.seen ≤ q.version
  fresh_here = (checked_ok (keys_in s) (positions_of (keys_in s) s.shape word) q.version run.kept.seen (name run 2) (name run 3) lead frame both.0 both.1 a.lead_bytes a.follow_bytes passed_here).one.fresh

-- ---- which events end a search accepted

gap_ends : (e : Entry) (n l : ℕ) (x : Answer) (f : Fault) (b : Bool) → (if b then Updating e (WhichOther n (l + 1)) else fails f) ≡ Ended (Accepted x) → ⊥
gap_ends e n l x f true q = cc
gap_ends e n l x f false q = cc

refused_ends : (e : Entry) (n : ℕ) (x : Answer) (f : Fault) → after_refused e n f ≡ Ended (Accepted x) → ⊥
refused_ends e n x (fault.Check (check.Refused Follow (refusal.Gap l))) q = gap_ends e n l x (fault.Check (check.Refused Follow (refusal.Gap l))) (nat_lt (l + 1) n) q
refused_ends e n x f q = cc

fault_ends : (e : Entry) (at : UpdateStep) (x : Answer) (f : Fault) → after_fault e at f ≡ Ended (Accepted x) → ⊥
fault_ends e (FollowOn n false) x f q = refused_ends e n x f q
fault_ends e (FollowOn n true) x f q = cc
fault_ends e StageFollow x f q = cc
fault_ends e StageLead x f q = cc
fault_ends e OrderLead x f q = cc
fault_ends e (WhichOther n at) x f q = cc
fault_ends e (FollowOther n at id) x f q = cc

other_ends : (e : Entry) (n at : ℕ) (x : Answer) (b : Bool) → (if b then Updating e (WhichOther n (at + 1)) else Updating e (FollowOn n true)) ≡ Ended (Accepted x) → ⊥
other_ends e n at x true q = cc
other_ends e n at x false q = cc

updated_ends : (c : Rattle.dory_base.specs.declared.entry.Change.Change) (d : Rattle.dory_base.specs.declared.ids.DocId.DocId) (n : ℕ) (x : Answer) → Ended (updated c d n) ≡ Ended (Accepted x) → ⊥
updated_ends (change.Post shape row tags) d n x q = cc
updated_ends change.Remove d n x q = cc

mark_ends : (e : Entry) (at : UpdateStep) (x : Answer) (m : Mark) → after_mark e at m ≡ Ended (Accepted x) → ⊥
mark_ends e StageFollow x m q = cc
mark_ends e StageLead x m q = cc
mark_ends e OrderLead x m q = cc
mark_ends e (FollowOn n repaired) x m q = updated_ends e.change e.doc n x q
mark_ends e (WhichOther n at) x m q = cc
mark_ends e (FollowOther n at id) x m q = other_ends e n at x (nat_lt (at + 1) n) q

update_ends : (e : Entry) (at : UpdateStep) (x : Answer) (r : Result Mark Fault) → after_update e at r ≡ Ended (Accepted x) → ⊥
update_ends e at x (Ok m) q = mark_ends e at x m q
update_ends e at x (Err f) q = fault_ends e at x f q

lengths_ends : (run : Run) (word : Option (List ℕ)) (x : Answer) (r : Result (ℕ × ℕ) CheckFault) → after_lengths run word r ≡ Ended (Accepted x) → ⊥
lengths_ends run word x (Err f) q = cc
lengths_ends run None x (Ok n) q = cc
lengths_ends run (Some word) x (Ok n) q = cc

accepted_is : (x y : Answer) → Ended (Accepted x) ≡ Ended (Accepted y) → x ≡ y
accepted_is x y e = cc

-- a pair that is accepted passed every check
search_ends : (keys : FolderKeys) (q : Query) (x : Answer) (r : Result (Found × Found) CheckFault) → after_search keys q r ≡ Ended (Accepted x) → (both : Found × Found) × (r ≡ Ok both) × (answer_by keys q both.0 both.1 ≡ x)
search_ends keys q x (Err f) e = absurd (cc)
search_ends keys q x (Ok both) e = (both, refl, accepted_is (answer_by keys q both.0 both.1) x e)

line_ends : (n : ℕ) (m k : MemberId) (p : Phase) (o : Outcome) → line_of n m p ≡ line.Ended k o → (m ≡ k) × (p ≡ Ended o)
line_ends n m k (Updating e at) o q = absurd (cc)
line_ends n m k (Measuring word None) o q = absurd (cc)
line_ends n m k (Measuring word (Some lead)) o q = absurd (cc)
line_ends n m k (Searching s None) o q = absurd (cc)
line_ends n m k (Searching s (Some lead)) o q = absurd (cc)
line_ends n m k (Ended x) o q = (cc, (let w : x ≡ o = cc in ap (λ (y : Outcome). Ended y) w))

ended_is : (x y : Outcome) → Ended x ≡ Ended y → x ≡ y
ended_is x y e = cc

no_start : (k : KeptState) (seed : List ℕ) (c : Command) (run : Run) (x : Answer) → Starts k seed c run → run.phase ≡ Ended (Accepted x) → ⊥
no_start k seed c run x (Resumes p is pends l e) q = let w : Updating (entry_of k p) StageFollow ≡ Ended (Accepted x) = ap (λ (r : Run). r.phase) e ∙ q in cc
no_start k seed c run x (Searches word is l e) q = let w : Measuring (Some word) None ≡ Ended (Accepted x) = ap (λ (r : Run). r.phase) e ∙ q in cc
no_start k seed c run x (Measures is l e) q = let w : Measuring None None ≡ Ended (Accepted x) = ap (λ (r : Run). r.phase) e ∙ q in cc
no_start k seed c run x (Posts doc row is l e r) q =
    let w : Updating (entry_of (ready k) (new_update (ready k) doc (Some row))) StageFollow ≡ Ended (Accepted x) = ap (λ (r : Run). r.phase) r ∙ q in cc
no_start k seed c run x (Removes doc is l e) q =
    let w : Updating (entry_of k (new_update k doc None)) StageFollow ≡ Ended (Accepted x) = ap (λ (r : Run). r.phase) e ∙ q in cc
no_start k seed c run x (Rests is e) q = let w : NothingPending ≡ Accepted x = ended_is NothingPending (Accepted x) (ap (λ (r : Run). r.phase) e ∙ q) in cc
no_start k seed c run x (Rotates is l e) q =
    let o : Outcome = Rotated (epoch_in (turned k).next_serial) in
    let w : Rotated (epoch_in (turned k).next_serial) ≡ Accepted x = ended_is o (Accepted x) (ap (λ (r : Run). r.phase) e ∙ q) in cc

module _ (h : Honest) (s : Setup) (x : Moment) (g : IsGood s x.world x.made) (n : IsNamed h x.world x.given) where
  -- a returned frame that ends a search accepted
  returned_right : (number : ℕ) (side : Side) (m : MemberId) (frame : List ℕ) (run : Run) (a : Ask) (e : Event) (y : Answer) (p : Phase) → e ≡ Rattle.dory_run.specs.declared.event.Event.TheVariants.Return number
      → slice_get x.world.messages number ≡ Some (Replied side m frame) → slice_get x.world.members m.0 ≡ Some (Busy run) → run.phase ≡ p → asks p ≡ Some a → a.side ≡ side
      → IsPhase x.made p run.step → IsNamedPhase h x.world x.given m.0 run p → phase_after run p frame ≡ Ended (Accepted y) → IsRight h s x e m y
  returned_right number side m frame run a e y (Updating u at) is came here at_p q same ph nm end =
      absurd (update_ends u at y (confirmed (side_of at) (single_of u.id at) (name run run.step) frame) end)
  returned_right number side m frame run a e y (Measuring word None) is came here at_p q same ph nm end = absurd (cc)
  returned_right number side m frame run a e y (Measuring word (Some lead)) is came here at_p q same ph nm end =
      absurd (lengths_ends run word y (Rattle.dory_verify.specs.Checks.lengths_of run.kept.seen (name run 0) (name run 1) lead frame) end)
  returned_right number side m frame run a e y (Searching u None) is came here at_p q same ph nm end = absurd (cc)
  returned_right number side m frame run a e y (Ended o) is came here at_p q same ph nm end = absurd (cc)
  returned_right number side m frame run a e y (Searching u (Some lead)) is came here at_p q same ph nm end =
      let kept : IsRunning s x.made m.0 run = some_at (IsStation s x.made m.0) (slice_get x.world.members m.0) (Busy run) here (g.members m.0) in
      let i : to_follow u ≡ a = cc in
      let to_side : Follow ≡ side = ap (λ (a : Ask). a.side) i ∙ same in
      let came_follow : slice_get x.world.messages number ≡ Some (Replied Follow m frame) = subst (λ (t : Side). slice_get x.world.messages number ≡ Some (Replied t m frame)) (sym to_side) came in
      let from : FrameFrom h x.world Follow frame = all_get (IsNamedMessage h x.world) x.world.messages number (Replied Follow m frame) came_follow n.messages in
      let bytes : IsBytes frame = all_get (IsPutRight s x.made) x.world.messages number (Replied Follow m frame) came_follow g.messages in
      let passed = search_ends (folder_keys run.kept) u y (first_fault_of (folder_keys run.kept) (asked_columns u) u.version run.kept.seen (name run 2) (name run 3) lead frame) end in
      let acc : IsAccepted h s x.world x.made m.0 run u nm.1.word lead frame passed.0 = record {
        kept = kept.kept;
        asked = nm.1.asked;
        lead_put = nm.2;
        follow_put = nm.3;
        from_lead = nm.4;
        from_follow = from;
        lead_bytes = ph.3;
        follow_bytes = bytes;
        passed = passed.1;
      } in
      subst (λ (y : Answer). IsRight h s x e m y) passed.2 (record {
        word = nm.1.word;
        given = nm.1.searches;
        run = run;
        query = u;
        frames = by_side lead frame;
        runs = here;
        phase = at_p;
        asked = nm.1.asked;
        number = number;
        returns = is;
        came = came_follow;
        fresh = fresh_here h s x.world x.made m.0 run u nm.1.word lead frame passed.0 g acc;
        right = right_beside h s x.world x.made m.0 run u nm.1.word lead frame passed.0 g acc;
      })

  move_right : (e : Event) (t : Happened) (m : MemberId) (y : Answer) → Moves h s x.world e t → t.line ≡ line.Ended m (Accepted y) → IsRight h s x e m y
  move_right e t k y (Refuses m c f is idle eq) end =
      let w : line.Ended m (Failed f) ≡ line.Ended k (Accepted y) = ap (λ (t : Happened). t.line) eq ∙ end in absurd (cc)
  move_right e t k y (Begins m c st run is here fit b eq) end =
      let w = line_ends (length x.world.messages) m k run.phase (Accepted y) (ap (λ (t : Happened). t.line) eq ∙ end) in
      absurd (no_start st _ c run y (starts st _ c run b) w.1)
  move_right e t k y (Carries i side request is here eq) end =
      let w : line.Reply (length x.world.messages) side (what_kind (answer_of (folder_of x.world side) request.want)) (refusal_in (answer_of (folder_of x.world side) request.want)) ≡ line.Ended k (Accepted y) =
      ap (λ (t : Happened). t.line) eq ∙ end in absurd (cc)
  move_right e t k y (Returns i side m frame run a is came here q same eq) end =
      let w = line_ends (length x.world.messages) m k (phase_after run run.phase frame) (Accepted y) (ap (λ (t : Happened). t.line) eq ∙ end) in
      let kept : IsRunning s x.made m.0 run = some_at (IsStation s x.made m.0) (slice_get x.world.members m.0) (Busy run) here (g.members m.0) in
      let nm : IsNamedRun h x.world x.given m.0 run = some_at (IsNamedStation h x.world x.given m.0) (slice_get x.world.members m.0) (Busy run) here (n.members m.0) in
      subst (λ (k : MemberId). IsRight h s x e k y) w.0 (returned_right i side m frame run a e y run.phase is came here refl q same kept.phase nm.phase w.1)
  move_right e t k y (Lies side m frame never l bytes eq) end =
      let w : line.Lied (length x.world.messages) side ≡ line.Ended k (Accepted y) = ap (λ (t : Happened). t.line) eq ∙ end in absurd (cc)
  move_right e t k y (Quits m run is here eq) end =
      let w : line.Quit m ≡ line.Ended k (Accepted y) = ap (λ (t : Happened). t.line) eq ∙ end in absurd (cc)

  pub accepts_right : AcceptsRight h s x
  accepts_right e t m y is end =
      move_right e t m y (moves h s x.world (λ i side k frame came. all_get (IsPutRight s x.made) x.world.messages i (Replied side k frame) came g.messages) e t is) end
