-- Where a frame of bytes leads a command: its numbers stay in range, and so does what it asks.
use Rattle.std.proofs.Common.{◌≡◌, ℕ, suc, ◌+◌, ◌*◌, ◌≤◌, ◌<◌, Bool, true, false, List, [], ◌∷◌, length, drop, refl, ap, ◌∙◌, arith, subst}
use Rattle.std.specs.Prelude.{Option, Some, None, IfSome, Result, Ok, Err, nat_lt, if◌then◌else◌}
use Rattle.std.proofs.lemmas.Bool.{ltb-true}
use Rattle.std.proofs.lemmas.List.FromFn.{length-map-range_with_len}
use Rattle.dory_base.specs.declared.entry.Change.{Change}
use Rattle.dory_base.specs.declared.entry.Change.TheVariants as change
use Rattle.dory_base.specs.declared.entry.Entry.{Entry}
use Rattle.dory_base.specs.declared.found.Found.{Found}
use Rattle.dory_base.specs.declared.ids.AskId.{AskId}
use Rattle.dory_base.specs.declared.ids.Side.{Side}
use Rattle.dory_base.specs.declared.ids.Side.TheVariants as sides
use Rattle.dory_base.specs.declared.refusal.Refusal.TheVariants as refusal
use Rattle.dory_fields.specs.Bytes.{IsBytes}
use Rattle.dory_fields.proofs.Fields.{IsBytes-drop}
use Rattle.dory_hmac.specs.declared.folder_keys.FolderKeys.{FolderKeys}
use Rattle.dory_bloom.specs.Positions.{positions_of}
use Rattle.dory_query.specs.Columns.{asked_columns}
use Rattle.dory_query.specs.Drawn.{keys_from}
use Rattle.dory_query.specs.declared.query.Query.{Query}
use Rattle.dory_wire.specs.Frame.{message_in}
use Rattle.dory_wire.specs.Reading.{if_read, reply_in, reply_of, reply_or_none}
use Rattle.dory_wire.specs.Spelling.{IsEntry, IsId, IsNumber, IsReply, IsWhat}
use Rattle.dory_wire.specs.declared.fault.WireFault.{WireFault}
use Rattle.dory_wire.specs.declared.message.Reply.{Reply}
use Rattle.dory_wire.specs.declared.message.What.{What}
use Rattle.dory_wire.specs.declared.message.What.TheVariants.{At, Found as Finds, Id, Staged, Committed, Refused}
use Rattle.dory_wire.proofs.FrameLaws.{frame_is}
use Rattle.dory_wire.proofs.ReplyLaws.{reply_takes}
use Rattle.dory_verify.specs.Checks.{◌>>=◌, form, echo, length_of, lengths_of, first_fault_of, not_stale}
use Rattle.dory_verify.specs.declared.fault.CheckFault.{CheckFault}
use Rattle.dory_verify.specs.declared.fault.CheckFault.TheVariants as check
use Rattle.dory_verify.specs.declared.reply.Allowed.TheVariants as allowed
use Rattle.dory_verify.proofs.FormLaws.{bind_ok, form_came}
use Rattle.dory_state.specs.declared.kept.KeptState.{KeptState}
use Rattle.dory_state.specs.Spelling.{IsKeptState}
use Rattle.dory_member.specs.declared.outcome.Fault.{Fault}
use Rattle.dory_member.specs.declared.outcome.Fault.TheVariants as fault
use Rattle.dory_member.specs.declared.outcome.Mark.{Mark}
use Rattle.dory_member.specs.declared.phase.Phase.{Phase}
use Rattle.dory_member.specs.declared.phase.Phase.TheVariants.{Updating, Measuring, Searching, Ended}
use Rattle.dory_member.specs.declared.phase.Run.{Run}
use Rattle.dory_member.specs.declared.phase.Single.TheVariants as single
use Rattle.dory_member.specs.declared.phase.UpdateStep.{UpdateStep}
use Rattle.dory_member.specs.declared.phase.UpdateStep.TheVariants.{StageFollow, StageLead, OrderLead, FollowOn, WhichOther, FollowOther}
use Rattle.dory_member.specs.Course.{Ask, after_fault, after_lengths, after_mark, after_refused, after_search, after_update, ask_request, asks, fails, folder_keys, kept_at, lesser, name, phase_after, query_of, side_of, single_of, updated, want_of}
use Rattle.dory_member.specs.Single.{confirmed}
use Rattle.dory_member.specs.Within.{IsInRange, IsSeen, asks_before}
use Rattle.dory_member.proofs.ConfirmationLaws.{heard, said_order, said_which}
use Rattle.dory_member.proofs.Kept.{kept_at_is}
use Rattle.dory_run.specs.declared.setup.Setup.{Setup}
use Rattle.dory_run.specs.Kept.{HasFewKeys, IsAsked, IsPhase, IsRunning, IsWanted}
use Rattle.dory_run.specs.Law.{IsMade}

-- ---- what a frame says is in range

message_read : (o : Option (List ℕ)) (r : Reply) → reply_or_none o ≡ Some r → (m : List ℕ) × (o ≡ Some m) × (if_read (reply_of m) ≡ Some r)
message_read None r e = absurd (cc)
message_read (Some m) r e = (m, refl, e)

read_is : (x : Result Reply WireFault) (r : Reply) → if_read x ≡ Some r → x ≡ Ok r
read_is (Ok y) r e = let w : y ≡ r = cc in ap (λ (z : Reply). Ok z) w
read_is (Err f) r e = absurd (cc)

pub reply_range : (frame : List ℕ) (r : Reply) → IsBytes frame → reply_in frame ≡ Some r → IsReply r
reply_range frame r bytes e =
    let m = message_read (message_in frame) r e in
    let inside : drop 4 frame ≡ m.0 = ap (drop 4) (frame_is frame m.0 bytes m.1).0 in
    (reply_takes m.0 r (subst IsBytes inside (IsBytes-drop 4 frame bytes)) (read_is (reply_of m.0) r m.2)).1

what_range : (frame : List ℕ) (r : Reply) (w : What) → IsBytes frame → reply_in frame ≡ Some r → r.what ≡ w → IsWhat w
what_range frame r w bytes e is = subst IsWhat is (reply_range frame r bytes e).what

-- two lengths that passed their checks are those of the two replies
pub record AreLengths (lead follow : List ℕ) (n m : ℕ) : Type 0 where
  pub lead_reply : Reply
  pub follow_reply : Reply
  pub lead_came : reply_in lead ≡ Some lead_reply
  pub follow_came : reply_in follow ≡ Some follow_reply
  pub lead_says : lead_reply.what ≡ At n
  pub follow_says : follow_reply.what ≡ At m

length_is : (side : Side) (w : What) (n : ℕ) → length_of side w ≡ Ok n → w ≡ At n
length_is side (At k) n e = let w : k ≡ n = cc in ap (λ (x : ℕ). At x) w
length_is side (Finds f) n e = absurd (cc)
length_is side (Id k i) n e = absurd (cc)
length_is side (Staged i) n e = absurd (cc)
length_is side (Committed k i) n e = absurd (cc)
length_is side (Refused c) n e = absurd (cc)

abbrev ok_pair : ℕ × ℕ → Result (ℕ × ℕ) CheckFault
ok_pair p = Ok p

last_two : (r t : Result (Unit {0}) CheckFault) (v n : ℕ × ℕ) → (r >>= (λ a. t >>= (λ b. ok_pair v))) ≡ ok_pair n → v ≡ n
last_two (Ok a) (Ok b) v n e = cc
last_two (Ok a) (Err f) v n e = absurd (cc)
last_two (Err f) t v n e = absurd (cc)

pub lengths_ok : (seen : ℕ) (first second : AskId) (lead follow : List ℕ) (n : ℕ × ℕ) → lengths_of seen first second lead follow ≡ Ok n → AreLengths lead follow n.0 n.1
unfolding lengths_of
lengths_ok seen first second lead follow n e =
    let a = bind_ok (form sides.Lead allowed.At lead) _ n e in
    let b = bind_ok (form sides.Follow allowed.At follow) _ n a.2 in
    let c = bind_ok (echo sides.Lead first a.0) _ n b.2 in
    let d = bind_ok (echo sides.Follow second b.0) _ n c.2 in
    let x = bind_ok (length_of sides.Lead a.0.what) _ n d.2 in
    let y = bind_ok (length_of sides.Follow b.0.what) _ n x.2 in
    let z = last_two (not_stale sides.Lead seen x.0) (not_stale sides.Follow seen y.0) (x.0, y.0) n y.2 in
    record {
      lead_reply = a.0;
      follow_reply = b.0;
      lead_came = form_came sides.Lead allowed.At lead a.0 a.1;
      follow_came = form_came sides.Follow allowed.At follow b.0 b.1;
      lead_says = length_is sides.Lead a.0.what x.0 x.1 ∙ ap (λ (p : ℕ × ℕ). At p.0) z;
      follow_says = length_is sides.Follow b.0.what y.0 y.1 ∙ ap (λ (p : ℕ × ℕ). At p.1) z;
    }

-- ---- a query

keys_length : (party depth : ℕ) (seed : List ℕ) (stream probe : ℕ) (columns : List ℕ) → length (keys_from party depth seed stream probe columns) ≡ length columns
keys_length party depth seed stream probe [] = refl
keys_length party depth seed stream probe (c ∷ columns) = ap suc (keys_length party depth seed stream (probe + 1) columns)

-- a query that is drawn has few keys
pub query_few : (run : Run) (word : List ℕ) (version : ℕ) → IsKeptState run.kept
    → HasFewKeys (query_of run word version)
query_few run word version h =
    let n : length (positions_of (folder_keys run.kept) run.kept.shape word) ≡ run.kept.shape.probes = length-map-range_with_len _ 0 run.kept.shape.probes in
    record {
      lead = omega (arith, n, h.shape.few, keys_length 0 run.kept.shape.depth run.seed run.serial 0 (positions_of (folder_keys run.kept) run.kept.shape word));
      follow = omega (arith, n, h.shape.few, keys_length 1 run.kept.shape.depth run.seed run.serial 0 (positions_of (folder_keys run.kept) run.kept.shape word));
    }

-- ---- the next phase

module _ (made : List Entry) where
  gap_phase : (e : Entry) (n : ℕ) (f : Fault) (step : ℕ) → IsMade made e → IsNumber n → step ≤ 3 → (b : Bool) (l : ℕ) → nat_lt (l + 1) n ≡ b
      → IsPhase made (if b then Updating e (WhichOther n (l + 1)) else fails f) (step + 1)
  gap_phase e n f step m r le true l t = (m, (r, omega arith, ltb-true (l + 1) n t), omega (arith, le))
  gap_phase e n f step m r le false l t = tt

  refused_phase : (e : Entry) (n : ℕ) (f : Fault) (step : ℕ) → IsMade made e → IsNumber n → step ≤ 3 → IsPhase made (after_refused e n f) (step + 1)
  refused_phase e n (fault.Check (check.Refused sides.Follow (refusal.Gap l))) step m r le =
      gap_phase e n (fault.Check (check.Refused sides.Follow (refusal.Gap l))) step m r le (nat_lt (l + 1) n) l refl
  refused_phase e n f step m r le = tt

  fault_phase : (e : Entry) (at : UpdateStep) (f : Fault) (step : ℕ) → IsMade made e → IsInRange at → step ≤ asks_before at → IsPhase made (after_fault e at f) (step + 1)
  fault_phase e (FollowOn n false) f step m r le = refused_phase e n f step m r le
  fault_phase e (FollowOn n true) f step m r le = tt
  fault_phase e StageFollow f step m r le = tt
  fault_phase e StageLead f step m r le = tt
  fault_phase e OrderLead f step m r le = tt
  fault_phase e (WhichOther n at) f step m r le = tt
  fault_phase e (FollowOther n at id) f step m r le = tt

  other_phase : (e : Entry) (n at step : ℕ) → IsMade made e → IsNumber n → at < n → step ≤ 5 + 2 * at → (b : Bool) → nat_lt (at + 1) n ≡ b
      → IsPhase made (if b then Updating e (WhichOther n (at + 1)) else Updating e (FollowOn n true)) (step + 1)
  other_phase e n at step m r lt le true t = (m, (r, omega arith, ltb-true (at + 1) n t), omega (arith, le))
  other_phase e n at step m r lt le false t = (m, r, omega (arith, le, lt))

  mark_phase : (e : Entry) (at : UpdateStep) (ask : AskId) (frame : List ℕ) (m : Mark) (step : ℕ) → IsMade made e → IsInRange at → step ≤ asks_before at → IsBytes frame
      → confirmed (side_of at) (single_of e.id at) ask frame ≡ Ok m → IsPhase made (after_mark e at m) (step + 1)
  mark_phase e StageFollow ask frame m step p r le bytes c = (p, tt, omega (arith, le))
  mark_phase e StageLead ask frame m step p r le bytes c = (p, tt, omega (arith, le))
  mark_phase e OrderLead ask frame m step p r le bytes c =
      let w = heard sides.Lead (single.Order e.id) ask frame m c in
      let q = said_order sides.Lead e.id w.reply.what m w.says in
      let range : IsNumber m.number × IsId m.id = what_range frame w.reply (Committed m.number m.id) bytes w.came q.0 in
      (p, range.0, omega (arith, le))
  mark_phase e (FollowOn n repaired) ask frame m step p r le bytes c = tt
  mark_phase e (WhichOther n at) ask frame m step p r le bytes c =
      let w = heard sides.Lead (single.Which at) ask frame m c in
      let q = said_which sides.Lead at w.reply.what m w.says in
      let range : IsNumber m.number × IsId m.id = what_range frame w.reply (Id m.number m.id) bytes w.came q.0 in
      (p, (r.0, r.1, r.2, range.1), omega (arith, le))
  mark_phase e (FollowOther n at id) ask frame m step p r le bytes c = other_phase e n at step p r.0 r.2 le (nat_lt (at + 1) n) refl

  update_phase : (e : Entry) (at : UpdateStep) (ask : AskId) (frame : List ℕ) (r : Result Mark Fault) (step : ℕ) → IsMade made e → IsInRange at → step ≤ asks_before at → IsBytes frame
      → confirmed (side_of at) (single_of e.id at) ask frame ≡ r → IsPhase made (after_update e at r) (step + 1)
  update_phase e at ask frame (Ok m) step p r le bytes c = mark_phase e at ask frame m step p r le bytes c
  update_phase e at ask frame (Err f) step p r le bytes c = fault_phase e at f step p r le

  lesser_if : (b : Bool) (m n : ℕ) → m ≤ 1048576 → n ≤ 1048576 → (if b then m else n) ≤ 1048576
  lesser_if true m n p q = p
  lesser_if false m n p q = q

  lengths_phase : (run : Run) (word : Option (List ℕ)) (first second : AskId) (seen : ℕ) (lead follow : List ℕ) (r : Result (ℕ × ℕ) CheckFault) (step : ℕ) → IsKeptState run.kept → step ≤ 1 → IsBytes lead → IsBytes follow
      → lengths_of seen first second lead follow ≡ r → IsPhase made (after_lengths run word r) (step + 1)
  lengths_phase run word first second seen lead follow (Err f) step h le l g e = tt
  lengths_phase run None first second seen lead follow (Ok n) step h le l g e = tt
  lengths_phase run (Some word) first second seen lead follow (Ok n) step h le l g e =
      let k = lengths_ok seen first second lead follow n e in
      (omega (arith, le), lesser_if (nat_lt n.0 n.1) n.0 n.1 (what_range lead k.lead_reply (At n.0) l k.lead_came k.lead_says) (what_range follow k.follow_reply (At n.1) g k.follow_came k.follow_says), query_few run word (lesser n.0 n.1) h)

  search_phase : (keys : FolderKeys) (q : Query) (r : Result (Found × Found) CheckFault) (step : ℕ) → IsPhase made (after_search keys q r) step
  search_phase keys q (Err f) step = tt
  search_phase keys q (Ok both) step = tt

  -- each frame of bytes leads to a phase in range
  pub phase_range : (run : Run) (p : Phase) (frame : List ℕ) → IsKeptState run.kept → IsPhase made p run.step → IsBytes frame → IsPhase made (phase_after run p frame) (run.step + 1)
  phase_range run (Updating e at) frame k h bytes =
      update_phase e at (name run run.step) frame (confirmed (side_of at) (single_of e.id at) (name run run.step) frame) run.step h.0 h.1 h.2 bytes refl
  phase_range run (Measuring word None) frame k h bytes = (omega (arith, h), bytes)
  phase_range run (Measuring word (Some lead)) frame k h bytes =
      lengths_phase run word (name run 0) (name run 1) run.kept.seen lead frame (lengths_of run.kept.seen (name run 0) (name run 1) lead frame) run.step k h.0 h.1 bytes refl
  phase_range run (Searching q None) frame k h bytes = (omega (arith, h.0), h.1, h.2, bytes)
  phase_range run (Searching q (Some lead)) frame k h bytes =
      search_phase (folder_keys run.kept) q (first_fault_of (folder_keys run.kept) (asked_columns q) q.version run.kept.seen (name run 2) (name run 3) lead frame) (run.step + 1)
  phase_range run (Ended outcome) frame k h bytes = tt

-- ---- what an end has seen

-- what an end of a command has seen is in range
abbrev pub EndSeen : Phase → Type 0
EndSeen (Ended outcome) = IsSeen outcome
EndSeen (Updating e at) = Unit {0}
EndSeen (Measuring word lead) = Unit {0}
EndSeen (Searching q lead) = Unit {0}

updated_end : (c : Change) (d : Rattle.dory_base.specs.declared.ids.DocId.DocId) (n : ℕ) → n ≤ 1048576 → IsSeen (updated c d n)
updated_end (change.Post shape row tags) d n le = le
updated_end change.Remove d n le = le

gap_end : (e : Entry) (n l : ℕ) (f : Fault) (b : Bool) → EndSeen (if b then Updating e (WhichOther n (l + 1)) else fails f)
gap_end e n l f true = tt
gap_end e n l f false = tt

refused_end : (e : Entry) (n : ℕ) (f : Fault) → EndSeen (after_refused e n f)
refused_end e n (fault.Check (check.Refused sides.Follow (refusal.Gap l))) = gap_end e n l (fault.Check (check.Refused sides.Follow (refusal.Gap l))) (nat_lt (l + 1) n)
refused_end e n f = tt

fault_end : (e : Entry) (at : UpdateStep) (f : Fault) → EndSeen (after_fault e at f)
fault_end e (FollowOn n false) f = refused_end e n f
fault_end e (FollowOn n true) f = tt
fault_end e StageFollow f = tt
fault_end e StageLead f = tt
fault_end e OrderLead f = tt
fault_end e (WhichOther n at) f = tt
fault_end e (FollowOther n at id) f = tt

other_end : (e : Entry) (n at : ℕ) (b : Bool) → EndSeen (if b then Updating e (WhichOther n (at + 1)) else Updating e (FollowOn n true))
other_end e n at true = tt
other_end e n at false = tt

mark_end : (e : Entry) (at : UpdateStep) (m : Mark) → IsInRange at → EndSeen (after_mark e at m)
mark_end e StageFollow m r = tt
mark_end e StageLead m r = tt
mark_end e OrderLead m r = tt
mark_end e (FollowOn n repaired) m r = updated_end e.change e.doc n r.few
mark_end e (WhichOther n at) m r = tt
mark_end e (FollowOther n at id) m r = other_end e n at (nat_lt (at + 1) n)

update_end : (e : Entry) (at : UpdateStep) (r : Result Mark Fault) → IsInRange at → EndSeen (after_update e at r)
update_end e at (Ok m) r = mark_end e at m r
update_end e at (Err f) r = fault_end e at f

lengths_end : (run : Run) (word : Option (List ℕ)) (r : Result (ℕ × ℕ) CheckFault) → EndSeen (after_lengths run word r)
lengths_end run word (Err f) = tt
lengths_end run None (Ok n) = tt
lengths_end run (Some word) (Ok n) = tt

search_end : (keys : FolderKeys) (q : Query) (r : Result (Found × Found) CheckFault) → q.version ≤ 1048576 → EndSeen (after_search keys q r)
search_end keys q (Err f) le = tt
search_end keys q (Ok both) le = le

pub phase_end : (made : List Entry) (run : Run) (p : Phase) (frame : List ℕ) → IsPhase made p run.step → EndSeen p → EndSeen (phase_after run p frame)
phase_end made run (Updating e at) frame h s = update_end e at (confirmed (side_of at) (single_of e.id at) (name run run.step) frame) h.1
phase_end made run (Measuring word None) frame h s = tt
phase_end made run (Measuring word (Some lead)) frame h s = lengths_end run word (lengths_of run.kept.seen (name run 0) (name run 1) lead frame)
phase_end made run (Searching q None) frame h s = tt
phase_end made run (Searching q (Some lead)) frame h s =
    search_end (folder_keys run.kept) q (first_fault_of (folder_keys run.kept) (asked_columns q) q.version run.kept.seen (name run 2) (name run 3) lead frame) h.1
phase_end made run (Ended outcome) frame h s = s

-- so what is kept is in range
pub kept_range : (k : KeptState) (p : Phase) → IsKeptState k → EndSeen p → IsKeptState (kept_at k p)
kept_range k (Updating e at) h s = h
kept_range k (Measuring word lead) h s = h
kept_range k (Searching q lead) h s = h
kept_range k (Ended outcome) h s = kept_at_is k (Ended outcome) 0 h s

-- ---- what is asked

single_wanted : (made : List Entry) (e : Entry) (at : UpdateStep) → IsMade made e → IsEntry e → IsInRange at → IsWanted made (want_of e (single_of e.id at))
single_wanted made e StageFollow m i r = m
single_wanted made e StageLead m i r = m
single_wanted made e OrderLead m i r = i.id
single_wanted made e (FollowOn n repaired) m i r = (r, i.id)
single_wanted made e (WhichOther n at) m i r = record { some = r.1; few = omega (arith, r.2, r.0.few) }
single_wanted made e (FollowOther n at id) m i r = (record { some = r.1; few = omega (arith, r.2, r.0.few) }, r.3)

phase_wanted : (made : List Entry) (p : Phase) (step : ℕ) → IsPhase made p step → ((e : Entry) → IsMade made e → IsEntry e) → IfSome (asks p) (λ a. IsWanted made a.want)
phase_wanted made (Updating e at) step h i = single_wanted made e at h.0 (i e h.0) h.1
phase_wanted made (Measuring word None) step h i = tt
phase_wanted made (Measuring word (Some lead)) step h i = tt
phase_wanted made (Searching q None) step h i = h.2.lead
phase_wanted made (Searching q (Some lead)) step h i = h.2.follow
phase_wanted made (Ended outcome) step h i = tt

step_few : (at : UpdateStep) → IsInRange at → asks_before at ≤ 2097157
step_few StageFollow r = omega arith
step_few StageLead r = omega arith
step_few OrderLead r = omega arith
step_few (FollowOn n false) r = omega arith
step_few (FollowOn n true) r = omega (arith, r.few)
step_few (WhichOther n at) r = omega (arith, r.0.few, r.2)
step_few (FollowOther n at id) r = omega (arith, r.0.few, r.2)

steps_few : (made : List Entry) (p : Phase) (step : ℕ) → IsPhase made p step → IfSome (asks p) (λ a. step ≤ 2097157)
steps_few made (Updating e at) step h = omega (arith, h.2, step_few at h.1)
steps_few made (Measuring word None) step h = omega (arith, h)
steps_few made (Measuring word (Some lead)) step h = omega (arith, h.0)
steps_few made (Searching q None) step h = omega (arith, h.0)
steps_few made (Searching q (Some lead)) step h = omega (arith, h.0)
steps_few made (Ended outcome) step h = tt

asked_some : (s : Setup) (made : List Entry) (m : ℕ) (run : Run) (o : Option Ask) → IsRunning s made m run → IfSome o (λ a. IsWanted made a.want) → IfSome o (λ a. run.step ≤ 2097157) → IfSome o (λ a. IsAsked s made (ask_request run a))
asked_some s made m run None h w f = tt
asked_some s made m run (Some a) h w f = record {
  ask = record { member = omega (arith, h.kept.state.member); serial = h.serial; step = omega (arith, f) };
  folder = h.kept.folder;
  want = w;
}

pub phase_asked : (s : Setup) (made : List Entry) (m : ℕ) (run : Run) → IsRunning s made m run → ((e : Entry) → IsMade made e → IsEntry e) → IfSome (asks run.phase) (λ a. IsAsked s made (ask_request run a))
phase_asked s made m run h i = asked_some s made m run (asks run.phase) h (phase_wanted made run.phase run.step h.phase i) (steps_few made run.phase run.step h.phase)
