-- Each event keeps what was seen below an honest domain's length.
use Rattle.std.proofs.Common.{◌≡◌, ℕ, ◌+◌, ◌≤◌, Bool, true, false, List, [], ◌∷◌, length, refl, ap, sym, ◌∙◌, arith, subst, ◌⊎◌, inl, inr}
use Rattle.std.specs.Prelude.{Option, Some, None, IfSome, Result, Ok, Err, nat_lt, if◌then◌else◌, slice_get, slice_set}
use Rattle.std.proofs.lemmas.Bool.{ltb-true, ltb-false}
use Rattle.dory_base.specs.Step.{State}
use Rattle.dory_base.specs.declared.entry.Change.{Change}
use Rattle.dory_base.specs.declared.entry.Change.TheVariants as change
use Rattle.dory_base.specs.declared.entry.Entry.{Entry}
use Rattle.dory_base.specs.declared.found.Found.{Found}
use Rattle.dory_base.specs.declared.ids.AskId.{AskId}
use Rattle.dory_base.specs.declared.ids.DocId.{DocId}
use Rattle.dory_base.specs.declared.ids.MemberId.{MemberId}
use Rattle.dory_base.specs.declared.ids.Side.{Side}
use Rattle.dory_base.specs.declared.ids.Side.TheVariants.{Lead, Follow}
use Rattle.dory_base.specs.declared.refusal.Refusal.TheVariants as refusal
use Rattle.dory_hmac.specs.declared.folder_keys.FolderKeys.{FolderKeys}
use Rattle.dory_query.specs.Columns.{asked_columns}
use Rattle.dory_query.specs.declared.query.Query.{Query}
use Rattle.dory_wire.specs.Reading.{reply_in}
use Rattle.dory_wire.specs.declared.message.Reply.{Reply}
use Rattle.dory_wire.specs.declared.message.Request.{Request}
use Rattle.dory_wire.specs.declared.message.Want.TheVariants as want
use Rattle.dory_wire.specs.declared.message.What.{What}
use Rattle.dory_wire.specs.declared.message.What.TheVariants.{At, Committed}
use Rattle.dory_verify.specs.Checks.{first_fault_of, lengths_of}
use Rattle.dory_verify.specs.declared.fault.CheckFault.{CheckFault}
use Rattle.dory_verify.specs.declared.fault.CheckFault.TheVariants as check
use Rattle.dory_state.specs.declared.kept.KeptState.{KeptState}
use Rattle.dory_member.specs.declared.command.Command.{Command}
use Rattle.dory_member.specs.declared.outcome.Fault.{Fault}
use Rattle.dory_member.specs.declared.outcome.Fault.TheVariants as fault
use Rattle.dory_member.specs.declared.outcome.Mark.{Mark}
use Rattle.dory_member.specs.declared.outcome.Outcome.{Outcome}
use Rattle.dory_member.specs.declared.outcome.Outcome.TheVariants.{Posted, Removed, Accepted, NothingPending, Lengths, Rotated, Failed}
use Rattle.dory_member.specs.declared.phase.Phase.{Phase}
use Rattle.dory_member.specs.declared.phase.Phase.TheVariants.{Updating, Measuring, Searching, Ended}
use Rattle.dory_member.specs.declared.phase.Run.{Run}
use Rattle.dory_member.specs.declared.phase.Single.TheVariants as single
use Rattle.dory_member.specs.declared.phase.UpdateStep.{UpdateStep}
use Rattle.dory_member.specs.declared.phase.UpdateStep.TheVariants.{StageFollow, StageLead, OrderLead, FollowOn, WhichOther, FollowOther}
use Rattle.dory_member.specs.Course.{Ask, after_fault, after_lengths, after_mark, after_refused, after_search, after_update, asks, fails, finished, folder_keys, kept_at, lesser, name, phase_after, side_of, single_of, to, took, updated, want_of}
use Rattle.dory_member.specs.Draw.{is_used_up, turned}
use Rattle.dory_member.specs.Single.{confirmed}
use Rattle.dory_member.proofs.ConfirmationLaws.{heard, said_follow, said_order}
use Rattle.dory_run.specs.declared.event.Event.{Event}
use Rattle.dory_run.specs.declared.event.Honest.{Honest}
use Rattle.dory_run.specs.declared.setup.Setup.{Setup}
use Rattle.dory_run.specs.Happening.{Happened, answered, folder_after, gone_on, lies, reply_frame, settled, station_at}
use Rattle.dory_run.specs.Named.{From, FrameFrom, IsNamed, IsNamedMessage, IsNamedPhase, IsNamedStation, SaysUpTo}
use Rattle.dory_run.specs.Run.{Given}
use Rattle.dory_run.specs.Seen.{IsSeen, PhaseSeen, RunSeen, StationSeen, StepSeen, length_of}
use Rattle.dory_run.specs.World.{Station, Idle, Busy, Message, Replied, World, folder_of, with_folder, with_member, with_messages}
use Rattle.dory_run.proofs.Folders.{prefix_length, step_later}
use Rattle.dory_run.proofs.Lists.{all_get, get_set_cases, some_at, some_map}
use Rattle.dory_run.proofs.Moves.{Moves, Begins, Carries, Lies, Quits, Refuses, Returns}
use Rattle.dory_run.proofs.Phases.{lengths_ok}
use Rattle.dory_run.proofs.Starts.{Measures, Posts, Removes, Rests, Resumes, Rotates, Searches, Starts, starts}

-- ---- what an honest frame says is so

says_of : (len : ℕ) (r r' : Reply) (w : What) → ◌≡◌ {A = Option Reply} (Some r) (Some r') → r'.what ≡ w → SaysUpTo len r.what → SaysUpTo len w
says_of len r r' w same is h = let e : r ≡ r' = cc in subst (SaysUpTo len) (ap (λ (x : Reply). x.what) e ∙ is) h

frame_says : (w : World) (side : Side) (r : Reply) (frame : List ℕ) (what : What) → reply_in frame ≡ Some r → r.what ≡ what → From w.messages (folder_of w side) side frame → SaysUpTo (length_of w side) what
frame_says w side r frame what e is f = says_of (length_of w side) f.reply r what (sym f.came ∙ e) is f.tells.bound

lesser_if : (b : Bool) (m n len : ℕ) → nat_lt m n ≡ b → ((m ≤ len) ⊎ (n ≤ len)) → (if b then m else n) ≤ len
lesser_if true m n len t (inl p) = p
lesser_if true m n len t (inr p) = omega (arith, p, ltb-true m n t)
lesser_if false m n len t (inl p) = omega (arith, p, ltb-false m n t)
lesser_if false m n len t (inr p) = p

greater_if : (b : Bool) (m n len : ℕ) → m ≤ len → n ≤ len → (if b then n else m) ≤ len
greater_if true m n len p q = q
greater_if false m n len p q = p

-- ---- the next phase

-- what an end has seen is below the length
abbrev OutcomeSeen : ℕ → Outcome → Type 0
OutcomeSeen len (Posted doc n) = n ≤ len
OutcomeSeen len (Removed doc n) = n ≤ len
OutcomeSeen len (Accepted answer) = answer.version ≤ len
OutcomeSeen len NothingPending = Unit {0}
OutcomeSeen len (Lengths lead follow seen) = Unit {0}
OutcomeSeen len (Rotated epoch) = Unit {0}
OutcomeSeen len (Failed f) = Unit {0}

abbrev EndSeen : ℕ → Phase → Type 0
EndSeen len (Updating e at) = Unit {0}
EndSeen len (Measuring word lead) = Unit {0}
EndSeen len (Searching q lead) = Unit {0}
EndSeen len (Ended outcome) = OutcomeSeen len outcome

record NextSeen (side : Side) (len : ℕ) (p : Phase) : Type 0 where
  pub phase : PhaseSeen side len p
  pub end : EndSeen len p

failed_seen : (side : Side) (len : ℕ) (f : Fault) → NextSeen side len (fails f)
failed_seen side len f = record { phase = tt; end = tt }

which_seen : (side : Side) (len : ℕ) (e : Entry) (n at : ℕ) (r : Bool) → StepSeen side len (FollowOn n r) → NextSeen side len (Updating e (WhichOther n at))
which_seen Lead len e n at r a = record { phase = a; end = tt }
which_seen Follow len e n at r a = record { phase = tt; end = tt }

gap_seen : (side : Side) (len : ℕ) (e : Entry) (n l : ℕ) (f : Fault) (b : Bool) → StepSeen side len (FollowOn n false) → NextSeen side len (if b then Updating e (WhichOther n (l + 1)) else fails f)
gap_seen side len e n l f true a = which_seen side len e n (l + 1) false a
gap_seen side len e n l f false a = failed_seen side len f

refused_seen : (side : Side) (len : ℕ) (e : Entry) (n : ℕ) (f : Fault) → StepSeen side len (FollowOn n false) → NextSeen side len (after_refused e n f)
refused_seen side len e n (fault.Check (check.Refused Follow (refusal.Gap l))) a = gap_seen side len e n l (fault.Check (check.Refused Follow (refusal.Gap l))) (nat_lt (l + 1) n) a
refused_seen side len e n f a = failed_seen side len f

fault_seen : (side : Side) (len : ℕ) (e : Entry) (at : UpdateStep) (f : Fault) → StepSeen side len at → NextSeen side len (after_fault e at f)
fault_seen side len e (FollowOn n false) f a = refused_seen side len e n f a
fault_seen side len e (FollowOn n true) f a = failed_seen side len f
fault_seen side len e StageFollow f a = failed_seen side len f
fault_seen side len e StageLead f a = failed_seen side len f
fault_seen side len e OrderLead f a = failed_seen side len f
fault_seen side len e (WhichOther n at) f a = failed_seen side len f
fault_seen side len e (FollowOther n at id) f a = failed_seen side len f

updated_seen : (len : ℕ) (c : Change) (doc : DocId) (n : ℕ) → n ≤ len → OutcomeSeen len (updated c doc n)
updated_seen len (change.Post shape row tags) doc n le = le
updated_seen len change.Remove doc n le = le

-- the lead's frame that a phase holds came from where it says
abbrev HeldFrame : Honest → World → Phase → Type 0
HeldFrame h w (Updating e at) = Unit {0}
HeldFrame h w (Measuring word None) = Unit {0}
HeldFrame h w (Measuring word (Some lead)) = FrameFrom h w Lead lead
HeldFrame h w (Searching q lead) = Unit {0}
HeldFrame h w (Ended outcome) = Unit {0}

module _ (h : Honest) (w : World) (side : Side) (honest : lies h side ≡ false) where
  honest_as : (t : Side) → t ≡ side → lies h t ≡ false
  honest_as t q = subst (λ (s : Side). lies h s ≡ false) (sym q) honest

  order_seen : (e : Entry) (ask : AskId) (frame : List ℕ) (m : Mark) → FrameFrom h w Lead frame → confirmed Lead (single.Order e.id) ask frame ≡ Ok m → (t : Side) → t ≡ side → StepSeen t (length_of w side) (FollowOn m.number false)
  order_seen e ask frame m f c Follow q = tt
  order_seen e ask frame m f c Lead q =
      let k = heard Lead (single.Order e.id) ask frame m c in
      let o = said_order Lead e.id k.reply.what m k.says in
      let le : m.number ≤ length_of w Lead = frame_says w Lead k.reply frame (Committed m.number m.id) k.came o.0 (f (honest_as Lead q)) in
      subst (λ (s : Side). m.number ≤ length_of w s) q le

  other_seen : (e : Entry) (n at : ℕ) (b : Bool) (t : Side) → StepSeen t (length_of w side) (WhichOther n at) → NextSeen t (length_of w side) (if b then Updating e (WhichOther n (at + 1)) else Updating e (FollowOn n true))
  other_seen e n at true Lead a = record { phase = a; end = tt }
  other_seen e n at true Follow a = record { phase = tt; end = tt }
  other_seen e n at false Lead a = record { phase = a; end = tt }
  other_seen e n at false Follow a = record { phase = tt; end = tt }

  posted_seen : (e : Entry) (n : ℕ) (ask : AskId) (frame : List ℕ) (m : Mark) → FrameFrom h w Follow frame → confirmed Follow (single.Follow n e.id) ask frame ≡ Ok m → Follow ≡ side → n ≤ length_of w side
  posted_seen e n ask frame m f c q =
      let k = heard Follow (single.Follow n e.id) ask frame m c in
      let o = said_follow Follow n e.id k.reply.what m k.says in
      let le : m.number ≤ length_of w Follow = frame_says w Follow k.reply frame (Committed m.number m.id) k.came o.0 (f (honest_as Follow q)) in
      subst (λ (s : Side). n ≤ length_of w s) q (omega (arith, le, o.1))

  mark_seen : (e : Entry) (at : UpdateStep) (ask : AskId) (frame : List ℕ) (m : Mark) → FrameFrom h w (side_of at) frame → confirmed (side_of at) (single_of e.id at) ask frame ≡ Ok m →
      (t : Side) → t ≡ side → StepSeen t (length_of w side) at → NextSeen t (length_of w side) (after_mark e at m)
  mark_seen e StageFollow ask frame m f c Lead q a = record { phase = tt; end = tt }
  mark_seen e StageFollow ask frame m f c Follow q a = record { phase = tt; end = tt }
  mark_seen e StageLead ask frame m f c Lead q a = record { phase = tt; end = tt }
  mark_seen e StageLead ask frame m f c Follow q a = record { phase = tt; end = tt }
  mark_seen e OrderLead ask frame m f c t q a = record { phase = order_seen e ask frame m f c t q; end = tt }
  mark_seen e (FollowOn n repaired) ask frame m f c Lead q a = record { phase = tt; end = updated_seen (length_of w side) e.change e.doc n a }
  mark_seen e (FollowOn n repaired) ask frame m f c Follow q a = record { phase = tt; end = updated_seen (length_of w side) e.change e.doc n (posted_seen e n ask frame m f c q) }
  mark_seen e (WhichOther n at) ask frame m f c Lead q a = record { phase = a; end = tt }
  mark_seen e (WhichOther n at) ask frame m f c Follow q a = record { phase = tt; end = tt }
  mark_seen e (FollowOther n at id) ask frame m f c Lead q a = other_seen e n at (nat_lt (at + 1) n) Lead a
  mark_seen e (FollowOther n at id) ask frame m f c Follow q a = other_seen e n at (nat_lt (at + 1) n) Follow tt

  update_seen : (e : Entry) (at : UpdateStep) (ask : AskId) (frame : List ℕ) (r : Result Mark Fault) → FrameFrom h w (side_of at) frame → confirmed (side_of at) (single_of e.id at) ask frame ≡ r →
      StepSeen side (length_of w side) at → NextSeen side (length_of w side) (after_update e at r)
  update_seen e at ask frame (Ok m) f c a = mark_seen e at ask frame m f c side refl a
  update_seen e at ask frame (Err x) f c a = fault_seen side (length_of w side) e at x a

  lesser_seen : (n : ℕ × ℕ) (l r : List ℕ) → FrameFrom h w Lead l → FrameFrom h w Follow r → (seen : ℕ) (ask ask' : AskId) → lengths_of seen ask ask' l r ≡ Ok n → (t : Side) → t ≡ side → lesser n.0 n.1 ≤ length_of w side
  lesser_seen n l r f g seen ask ask' e Lead q =
      let k = lengths_ok seen ask ask' l r n e in
      let le : n.0 ≤ length_of w Lead = frame_says w Lead k.lead_reply l (At n.0) k.lead_came k.lead_says (f (honest_as Lead q)) in
      subst (λ (s : Side). lesser n.0 n.1 ≤ length_of w s) q (lesser_if (nat_lt n.0 n.1) n.0 n.1 (length_of w Lead) refl (inl le))
  lesser_seen n l r f g seen ask ask' e Follow q =
      let k = lengths_ok seen ask ask' l r n e in
      let le : n.1 ≤ length_of w Follow = frame_says w Follow k.follow_reply r (At n.1) k.follow_came k.follow_says (g (honest_as Follow q)) in
      subst (λ (s : Side). lesser n.0 n.1 ≤ length_of w s) q (lesser_if (nat_lt n.0 n.1) n.0 n.1 (length_of w Follow) refl (inr le))

  lengths_seen : (run : Run) (l r : List ℕ) → FrameFrom h w Lead l → FrameFrom h w Follow r → (seen : ℕ) (ask ask' : AskId) (word : Option (List ℕ)) (x : Result (ℕ × ℕ) CheckFault) → lengths_of seen ask ask' l r ≡ x →
      NextSeen side (length_of w side) (after_lengths run word x)
  lengths_seen run l r f g seen ask ask' word (Err c) e = record { phase = tt; end = tt }
  lengths_seen run l r f g seen ask ask' None (Ok x) e = record { phase = tt; end = tt }
  lengths_seen run l r f g seen ask ask' (Some word) (Ok x) e = record { phase = lesser_seen x l r f g seen ask ask' e side refl; end = tt }

  search_seen : (keys : FolderKeys) (q : Query) (x : Result (Found × Found) CheckFault) → q.version ≤ length_of w side → NextSeen side (length_of w side) (after_search keys q x)
  search_seen keys q (Err c) a = record { phase = tt; end = tt }
  search_seen keys q (Ok x) a = record { phase = tt; end = a }

  -- a command's next phase, where the frame came from where it says
  phase_seen : (run : Run) (p : Phase) (a : Ask) (frame : List ℕ) → asks p ≡ Some a → FrameFrom h w a.side frame → PhaseSeen side (length_of w side) p → HeldFrame h w p → NextSeen side (length_of w side) (phase_after run p frame)
  phase_seen run (Updating e at) a frame q f s k =
      let i : to (side_of at) (want_of e (single_of e.id at)) ≡ a = cc in
      update_seen e at (name run run.step) frame (confirmed (side_of at) (single_of e.id at) (name run run.step) frame) (subst (λ (a : Ask). FrameFrom h w a.side frame) (sym i) f) refl s
  phase_seen run (Measuring word None) a frame q f s k = record { phase = tt; end = tt }
  phase_seen run (Measuring word (Some lead)) a frame q f s k =
      let i : to Follow want.Latest ≡ a = cc in
      lengths_seen run lead frame k (subst (λ (a : Ask). FrameFrom h w a.side frame) (sym i) f) run.kept.seen (name run 0) (name run 1) word (lengths_of run.kept.seen (name run 0) (name run 1) lead frame) refl
  phase_seen run (Searching q None) a frame k f s l = record { phase = s; end = tt }
  phase_seen run (Searching q (Some lead)) a frame k f s l =
      search_seen (folder_keys run.kept) q (first_fault_of (folder_keys run.kept) (asked_columns q) q.version run.kept.seen (name run 2) (name run 3) lead frame) s
  phase_seen run (Ended o) a frame q f s k = absurd (cc)

-- ---- members

step_longer : (side : Side) (len len' : ℕ) → len ≤ len' → (at : UpdateStep) → StepSeen side len at → StepSeen side len' at
step_longer Lead len len' le (FollowOn n r) a = omega (arith, a, le)
step_longer Lead len len' le (WhichOther n at) a = omega (arith, a, le)
step_longer Lead len len' le (FollowOther n at id) a = omega (arith, a, le)
step_longer Lead len len' le StageFollow a = tt
step_longer Lead len len' le StageLead a = tt
step_longer Lead len len' le OrderLead a = tt
step_longer Follow len len' le at a = tt

phase_longer : (side : Side) (len len' : ℕ) → len ≤ len' → (p : Phase) → PhaseSeen side len p → PhaseSeen side len' p
phase_longer side len len' le (Updating e at) a = step_longer side len len' le at a
phase_longer side len len' le (Measuring word lead) a = tt
phase_longer side len len' le (Searching q lead) a = omega (arith, a, le)
phase_longer side len len' le (Ended o) a = tt

run_longer : (side : Side) (len len' : ℕ) → len ≤ len' → (x : Station) → RunSeen side len x → RunSeen side len' x
run_longer side len len' le (Idle k) a = tt
run_longer side len len' le (Busy run) a = phase_longer side len len' le run.phase a

station_longer : (side : Side) (len len' : ℕ) → len ≤ len' → (x : Station) → StationSeen side len x → StationSeen side len' x
station_longer side len len' le x a = record { seen = omega (arith, a.seen, le); run = run_longer side len len' le x a.run }

set_seen : (side : Side) (len : ℕ) (xs : List Station) (m : ℕ) (x : Station) → ((i : ℕ) → IfSome (slice_get xs i) (StationSeen side len)) → StationSeen side len x →
    (i : ℕ) → IfSome (slice_get (slice_set xs m x) i) (StationSeen side len)
set_seen side len xs m x old new i = by_case (get_set_cases xs m i x)
  where
    by_case : ((slice_get (slice_set xs m x) i ≡ Some x) ⊎ (slice_get (slice_set xs m x) i ≡ slice_get xs i)) → IfSome (slice_get (slice_set xs m x) i) (StationSeen side len)
    by_case (inl e) = subst (λ (o : Option Station). IfSome o (StationSeen side len)) (sym e) new
    by_case (inr e) = subst (λ (o : Option Station). IfSome o (StationSeen side len)) (sym e) (old i)

settled_seen : (side : Side) (len : ℕ) (run : Run) (p : Phase) → run.kept.seen ≤ len → PhaseSeen side len run.phase → StationSeen side len (station_at run p)
settled_seen side len run (Updating e at) a b = record { seen = a; run = b }
settled_seen side len run (Measuring word lead) a b = record { seen = a; run = b }
settled_seen side len run (Searching q lead) a b = record { seen = a; run = b }
settled_seen side len run (Ended o) a b = record { seen = a; run = tt }

-- a world with the same histories
as_long : (w v : World) (side : Side) → v.lead ≡ w.lead → v.follow ≡ w.follow → length_of v side ≡ length_of w side
as_long w v Lead l f = ap (λ (s : State). length s.history) l
as_long w v Follow l f = ap (λ (s : State). length s.history) f

seen_as : (side : Side) (w v : World) → v.lead ≡ w.lead → v.follow ≡ w.follow → ((i : ℕ) → IfSome (slice_get v.members i) (StationSeen side (length_of w side))) → IsSeen side v
seen_as side w v l f s i = subst (λ (len : ℕ). IfSome (slice_get v.members i) (StationSeen side len)) (sym (as_long w v side l f)) (s i)

gone_seen : (side : Side) (w : World) (m : MemberId) (run : Run) → run.kept.seen ≤ length_of w side → PhaseSeen side (length_of w side) run.phase → IsSeen side w → IsSeen side (gone_on w m run)
gone_seen side w m run a b s = seen_as side w (gone_on w m run) refl refl (set_seen side (length_of w side) w.members m.0 (settled run) s (settled_seen side (length_of w side) run run.phase a b))

finished_seen : (len : ℕ) (k : KeptState) (o : Outcome) → k.seen ≤ len → OutcomeSeen len o → (finished k o).seen ≤ len
finished_seen len k (Posted doc n) a e = greater_if (nat_lt k.seen n) k.seen n len a e
finished_seen len k (Removed doc n) a e = greater_if (nat_lt k.seen n) k.seen n len a e
finished_seen len k (Accepted answer) a e = e
finished_seen len k NothingPending a e = a
finished_seen len k (Lengths lead follow seen) a e = a
finished_seen len k (Rotated epoch) a e = a
finished_seen len k (Failed f) a e = a

after_seen : (len : ℕ) (k : KeptState) (p : Phase) → k.seen ≤ len → EndSeen len p → (kept_at k p).seen ≤ len
after_seen len k (Updating e at) a x = a
after_seen len k (Measuring word lead) a x = a
after_seen len k (Searching q lead) a x = a
after_seen len k (Ended o) a x = finished_seen len k o a x

held_frame : (h : Honest) (w : World) (given : List Given) (m : ℕ) (run : Run) (p : Phase) → IsNamedPhase h w given m run p → HeldFrame h w p
held_frame h w given m run (Updating e at) n = tt
held_frame h w given m run (Measuring word None) n = tt
held_frame h w given m run (Measuring word (Some lead)) n = n.2
held_frame h w given m run (Searching q lead) n = tt
held_frame h w given m run (Ended o) n = tt

took_seen : (h : Honest) (side : Side) (w : World) (given : List Given) (m : MemberId) (run : Run) (a : Ask) (frame : List ℕ) → lies h side ≡ false → slice_get w.members m.0 ≡ Some (Busy run) → asks run.phase ≡ Some a → FrameFrom h w a.side frame →
    IsNamed h w given → IsSeen side w → IsSeen side (gone_on w m (took run frame))
took_seen h side w given m run a frame honest here q f n s =
    let st : StationSeen side (length_of w side) (Busy run) = some_at (StationSeen side (length_of w side)) (slice_get w.members m.0) (Busy run) here (s m.0) in
    let r : Rattle.dory_run.specs.Named.IsNamedRun h w given m.0 run = some_at (IsNamedStation h w given m.0) (slice_get w.members m.0) (Busy run) here (n.members m.0) in
    let x = phase_seen h w side honest run run.phase a frame q f st.run (held_frame h w given m.0 run run.phase r.phase) in
    gone_seen side w m (took run frame) (after_seen (length_of w side) run.kept (phase_after run run.phase frame) st.seen x.end) x.phase s

-- ---- histories only grow

answered_length : (w : World) (t : Side) (request : Request) (more : List Message) (side : Side) → length_of w side ≤ length_of (with_messages (with_folder w t (folder_after (folder_of w t) request)) more) side
answered_length w Lead request more Lead = prefix_length w.lead.history (folder_after w.lead request).history (step_later w.lead request.want).history
answered_length w Lead request more Follow = omega arith
answered_length w Follow request more Lead = omega arith
answered_length w Follow request more Follow = prefix_length w.follow.history (folder_after w.follow request).history (step_later w.follow request.want).history

answered_seen : (side : Side) (w : World) (t : Side) (request : Request) → IsSeen side w → IsSeen side (answered w t request).world
answered_seen side w t request s i =
    some_map (StationSeen side (length_of w side)) (StationSeen side (length_of (answered w t request).world side)) (slice_get w.members i)
    (station_longer side (length_of w side) (length_of (answered w t request).world side) (answered_length w t request (Replied t request.ask.member (reply_frame (folder_of w t) request) ∷ []) side)) (s i)

-- ---- Begin

record Begun (side : Side) (len : ℕ) (k : KeptState) (run : Run) : Type 0 where
  pub seen : run.kept.seen ≡ k.seen
  pub phase : PhaseSeen side len run.phase

first_step : (side : Side) (len : ℕ) → StepSeen side len StageFollow
first_step Lead len = tt
first_step Follow len = tt

ready_seen : (k : KeptState) (b : Bool) → (if b then turned k else k).seen ≡ k.seen
ready_seen k true = refl
ready_seen k false = refl

begun_seen : (side : Side) (len : ℕ) (k : KeptState) (seed : List ℕ) (c : Command) (run : Run) → Starts k seed c run → Begun side len k run
begun_seen side len k seed c run (Resumes p is pends l e) = subst (λ (run : Run). Begun side len k run) e (record { seen = refl; phase = first_step side len })
begun_seen side len k seed c run (Searches word is l e) = subst (λ (run : Run). Begun side len k run) e (record { seen = refl; phase = tt })
begun_seen side len k seed c run (Measures is l e) = subst (λ (run : Run). Begun side len k run) e (record { seen = refl; phase = tt })
begun_seen side len k seed c run (Posts doc row is l e r) = subst (λ (run : Run). Begun side len k run) r (record { seen = ready_seen k (is_used_up k); phase = first_step side len })
begun_seen side len k seed c run (Removes doc is l e) = subst (λ (run : Run). Begun side len k run) e (record { seen = refl; phase = first_step side len })
begun_seen side len k seed c run (Rests is e) = subst (λ (run : Run). Begun side len k run) e (record { seen = refl; phase = tt })
begun_seen side len k seed c run (Rotates is l e) = subst (λ (run : Run). Begun side len k run) e (record { seen = refl; phase = tt })

-- ---- each event

pub seen_move : (h : Honest) (s : Setup) (side : Side) → lies h side ≡ false → (w : World) (given : List Given) (e : Event) (t : Happened) → Moves h s w e t → IsNamed h w given → IsSeen side w → IsSeen side t.world
seen_move h s side honest w given e t (Refuses m c f is idle eq) n x = subst (λ (t : Happened). IsSeen side t.world) eq x
seen_move h s side honest w given e t (Begins m c k run is here fit b eq) n x =
    let st : StationSeen side (length_of w side) (Idle k) = some_at (StationSeen side (length_of w side)) (slice_get w.members m.0) (Idle k) here (x m.0) in
    let y = begun_seen side (length_of w side) k _ c run (starts k _ c run b) in
    subst (λ (t : Happened). IsSeen side t.world) eq (gone_seen side w m run (omega (arith, y.seen, st.seen)) y.phase x)
seen_move h s side honest w given e t (Carries i t' request is here eq) n x = subst (λ (t : Happened). IsSeen side t.world) eq (answered_seen side w t' request x)
seen_move h s side honest w given e t (Returns i t' m frame run a is came here q same eq) n x =
    subst (λ (t : Happened). IsSeen side t.world) eq
    (took_seen h side w given m run a frame honest here q (subst (λ (t : Side). FrameFrom h w t frame) (sym same) (all_get (IsNamedMessage h w) w.messages i (Replied t' m frame) came n.messages)) n x)
seen_move h s side honest w given e t (Lies t' m frame never l bytes eq) n x =
    subst (λ (t : Happened). IsSeen side t.world) eq (seen_as side w (with_messages w (Replied t' m frame ∷ [])) refl refl x)
seen_move h s side honest w given e t (Quits m run is here eq) n x =
    let st : StationSeen side (length_of w side) (Busy run) = some_at (StationSeen side (length_of w side)) (slice_get w.members m.0) (Busy run) here (x m.0) in
    subst (λ (t : Happened). IsSeen side t.world) eq
    (seen_as side w (with_member w m (Idle run.kept)) refl refl (set_seen side (length_of w side) w.members m.0 (Idle run.kept) x (record { seen = st.seen; run = tt })))
