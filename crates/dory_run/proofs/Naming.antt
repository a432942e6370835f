-- Each event keeps the names of asks, and where replies come from.
use Rattle.std.proofs.Common.{◌≡◌, ℕ, ◌+◌, ◌*◌, ◌/◌, ◌^◌, ◌≤◌, ◌<◌, Bool, true, false, List, [], ◌∷◌, ◌++◌, append-nil, refl, ap, sym, ◌∙◌, arith, subst, ◌⊎◌, inl, inr}
use Rattle.std.specs.Prelude.{◌==◌, Option, Some, None, IfSome, Result, Ok, Err, nat_lt, if◌then◌else◌, slice_get, slice_set}
use Rattle.std.proofs.lemmas.Bool.{cases_eq, eqb-true, eq-eqb, false≢true}
use Rattle.dory_base.specs.declared.entry.Entry.{Entry}
use Rattle.dory_base.specs.declared.found.Found.{Found}
use Rattle.dory_base.specs.declared.ids.MemberId.{MemberId}
use Rattle.dory_base.specs.declared.ids.Side.{Side}
use Rattle.dory_base.specs.declared.ids.Side.TheVariants.{Lead, Follow}
use Rattle.dory_base.specs.declared.refusal.Refusal.TheVariants as refusal
use Rattle.dory_base.specs.Step.{State}
use Rattle.dory_base.proofs.LogLaws.{get_set_same, get_set_other}
use Rattle.dory_hmac.specs.declared.folder_keys.FolderKeys.{FolderKeys}
use Rattle.dory_query.specs.Columns.{asked_columns}
use Rattle.dory_query.specs.declared.query.Query.{Query}
use Rattle.dory_wire.specs.declared.message.Request.{Request}
use Rattle.dory_wire.proofs.Lengths.{reply_read_back}
use Rattle.dory_verify.specs.Checks.{first_fault_of, lengths_of}
use Rattle.dory_verify.specs.declared.fault.CheckFault.{CheckFault}
use Rattle.dory_verify.specs.declared.fault.CheckFault.TheVariants as check
use Rattle.dory_state.specs.declared.kept.KeptState.{KeptState}
use Rattle.dory_member.specs.declared.command.Command.{Command}
use Rattle.dory_member.specs.declared.outcome.Fault.{Fault}
use Rattle.dory_member.specs.declared.outcome.Fault.TheVariants as fault
use Rattle.dory_member.specs.declared.outcome.Mark.{Mark}
use Rattle.dory_member.specs.declared.outcome.Outcome.{Outcome}
use Rattle.dory_member.specs.declared.outcome.Outcome.TheVariants.{Posted, Removed, Accepted, NothingPending, Lengths, Rotated, Failed}
use Rattle.dory_member.specs.declared.phase.Phase.{Phase}
use Rattle.dory_member.specs.declared.phase.Phase.TheVariants.{Updating, Measuring, Searching, Ended}
use Rattle.dory_member.specs.declared.phase.Run.{Run}
use Rattle.dory_member.specs.declared.phase.UpdateStep.{UpdateStep}
use Rattle.dory_member.specs.declared.phase.UpdateStep.TheVariants.{StageFollow, StageLead, OrderLead, FollowOn, WhichOther, FollowOther}
use Rattle.dory_member.specs.Course.{Ask, after_fault, after_lengths, after_mark, after_refused, after_search, after_update, asking, asks, ended_with, entry_of, fails, finished, folder_keys, kept_at, lesser, moved, name, phase_after, posting, query_of, removing, side_of, single_of, to, took}
use Rattle.dory_member.specs.Draw.{epoch_in, is_used_up, ready, turned}
use Rattle.dory_member.specs.Single.{confirmed}
use Rattle.dory_run.specs.declared.event.Event.{Event}
use Rattle.dory_run.specs.declared.event.Event.TheVariants.{Begin, Carry, Return, Lie, Bend, Quit}
use Rattle.dory_run.specs.declared.event.Honest.{Honest}
use Rattle.dory_run.specs.declared.setup.Setup.{Setup}
use Rattle.dory_run.specs.Happening.{Happened, answered, folder_after, gone_on, lies, reply_to, reply_frame}
use Rattle.dory_run.specs.Kept.{IsAsked, IsGood, IsPutRight, IsStation, IsStored, next_in, next_of}
use Rattle.dory_run.specs.Law.{kept_in}
use Rattle.dory_run.specs.Named.{AskAt, From, FrameFrom, IsNamed, IsNamedMessage, IsNamedPhase, IsNamedRun, IsNamedStation, IsPut, IsSought, IsWordGiven, asked_as, to_follow, to_lead}
use Rattle.dory_run.specs.Run.{Given, command_of, given_by}
use Rattle.dory_run.specs.World.{Station, Idle, Busy, Message, Asked, Replied, World, folder_of, with_folder, with_member, with_messages}
use Rattle.dory_run.proofs.Folders.{Later, later_refl, step_later, step_tells}
use Rattle.dory_run.proofs.Good.{entry_made, folders_with, next_more, next_phase}
use Rattle.dory_run.proofs.Lists.{all_get, all_map, get_within, some_at, some_map}
use Rattle.dory_run.proofs.Moves.{Moves, Begins, Carries, Lies, Quits, Refuses, Returns}
use Rattle.dory_run.proofs.Names.{Grown, IsNewer, ask_later, frame_later, gone_grown, gone_named, grown_by, put_found, replied_named, station_later}
use Rattle.dory_run.proofs.Replies.{reply_is}
use Rattle.dory_run.proofs.Starts.{Measures, Posts, Removes, Rests, Resumes, Rotates, Searches, Starts, starts}

-- ---- the next phase

module _ (h : Honest) (v : World) (given : List Given) (m : ℕ) (run : Run) where
  gap_named : (e : Entry) (n l : ℕ) (f : Fault) (b : Bool) → IsNamedPhase h v given m run (if b then Updating e (WhichOther n (l + 1)) else fails f)
  gap_named e n l f true = tt
  gap_named e n l f false = tt

  refused_named : (e : Entry) (n : ℕ) (f : Fault) → IsNamedPhase h v given m run (after_refused e n f)
  refused_named e n (fault.Check (check.Refused Follow (refusal.Gap l))) = gap_named e n l (fault.Check (check.Refused Follow (refusal.Gap l))) (nat_lt (l + 1) n)
  refused_named e n f = tt

  fault_named : (e : Entry) (at : UpdateStep) (f : Fault) → IsNamedPhase h v given m run (after_fault e at f)
  fault_named e (FollowOn n false) f = refused_named e n f
  fault_named e (FollowOn n true) f = tt
  fault_named e StageFollow f = tt
  fault_named e StageLead f = tt
  fault_named e OrderLead f = tt
  fault_named e (WhichOther n at) f = tt
  fault_named e (FollowOther n at id) f = tt

  other_named : (e : Entry) (n at : ℕ) (b : Bool) → IsNamedPhase h v given m run (if b then Updating e (WhichOther n (at + 1)) else Updating e (FollowOn n true))
  other_named e n at true = tt
  other_named e n at false = tt

  mark_named : (e : Entry) (at : UpdateStep) (k : Mark) → IsNamedPhase h v given m run (after_mark e at k)
  mark_named e StageFollow k = tt
  mark_named e StageLead k = tt
  mark_named e OrderLead k = tt
  mark_named e (FollowOn n repaired) k = tt
  mark_named e (WhichOther n at) k = tt
  mark_named e (FollowOther n at id) k = other_named e n at (nat_lt (at + 1) n)

  update_named : (e : Entry) (at : UpdateStep) (r : Result Mark Fault) → IsNamedPhase h v given m run (after_update e at r)
  update_named e at (Ok k) = mark_named e at k
  update_named e at (Err f) = fault_named e at f

-- a run that goes on: its next ask is put
record Next (w v : World) (run : Run) (p : Phase) : Type 0 where
  pub grown : Grown w v
  pub put : (a : Ask) → asks p ≡ Some a → AskAt v (moved run p) (run.step + 1) a

module _ (h : Honest) (w v : World) (given : List Given) (m : ℕ) (run : Run) where
  new_step : (k : ℕ) → run.step ≡ k → run.step + 1 ≡ k + 1
  new_step k e = ap (λ (i : ℕ). i + 1) e

  lengths_named : (word : Option (List ℕ)) (r : Result (ℕ × ℕ) CheckFault) → run.step ≡ 1 → IsWordGiven given m word → Next w v run (after_lengths run word r)
      → IsNamedPhase h v given m (moved run (after_lengths run word r)) (after_lengths run word r)
  lengths_named word (Err f) e g n = tt
  lengths_named None (Ok x) e g n = tt
  lengths_named (Some word) (Ok x) e g n = (
    new_step 1 e,
    record { word = word; searches = g; asked = refl },
    subst (λ (i : ℕ). AskAt v (moved run (Searching (query_of run word (lesser x.0 x.1)) None)) i (to_lead (query_of run word (lesser x.0 x.1)))) (new_step 1 e) (n.put (to_lead (query_of run word (lesser x.0 x.1))) refl),
  )

  search_named : (keys : FolderKeys) (q : Query) (r : Result (Found × Found) CheckFault) → IsNamedPhase h v given m (moved run (after_search keys q r)) (after_search keys q r)
  search_named keys q (Err f) = tt
  search_named keys q (Ok both) = tt

  took_named_at : (p : Phase) (a : Ask) (frame : List ℕ) → asks p ≡ Some a → IsNamedPhase h w given m run p → FrameFrom h v a.side frame →
      Next w v run (phase_after run p frame) → IsNamedPhase h v given m (moved run (phase_after run p frame)) (phase_after run p frame)
  took_named_at (Updating e at) a frame q b f n =
      update_named h v given m (moved run (phase_after run (Updating e at) frame)) e at (confirmed (side_of at) (single_of e.id at) (name run run.step) frame)
  took_named_at (Measuring word None) a frame q b f n =
      let e : to Lead Rattle.dory_wire.specs.declared.message.Want.TheVariants.Latest ≡ a = cc in
      (new_step 0 b.0, b.1, subst (λ (a : Ask). FrameFrom h v a.side frame) (sym e) f)
  took_named_at (Measuring word (Some lead)) a frame q b f n =
      lengths_named word (lengths_of run.kept.seen (name run 0) (name run 1) lead frame) b.0 b.1 n
  took_named_at (Searching s None) a frame q b f n =
      let e : to_lead s ≡ a = cc in (
        new_step 2 b.0,
        record { word = b.1.word; searches = b.1.searches; asked = b.1.asked },
        ask_later w v n.grown (name run 2) (to_lead s) b.2,
        subst (λ (i : ℕ). AskAt v (moved run (Searching s (Some frame))) i (to_follow s)) (new_step 2 b.0) (n.put (to_follow s) refl),
        subst (λ (a : Ask). FrameFrom h v a.side frame) (sym e) f,
      )
  took_named_at (Searching s (Some lead)) a frame q b f n =
      search_named (folder_keys run.kept) s (first_fault_of (folder_keys run.kept) (asked_columns s) s.version run.kept.seen (name run 2) (name run 3) lead frame)
  took_named_at (Ended o) a frame q b f n = absurd (cc)

member_finished : (k : KeptState) (o : Outcome) → (finished k o).member ≡ k.member
member_finished k (Posted doc n) = refl
member_finished k (Removed doc n) = refl
member_finished k (Accepted answer) = refl
member_finished k NothingPending = refl
member_finished k (Lengths lead follow seen) = refl
member_finished k (Rotated epoch) = refl
member_finished k (Failed f) = refl

member_phase : (k : KeptState) (p : Phase) → (kept_at k p).member ≡ k.member
member_phase k (Updating e at) = refl
member_phase k (Measuring word lead) = refl
member_phase k (Searching q lead) = refl
member_phase k (Ended o) = member_finished k o

took_named : (h : Honest) (w : World) (given : List Given) (m : MemberId) (run : Run) (a : Ask) (frame : List ℕ) → slice_get w.members m.0 ≡ Some (Busy run) → asks run.phase ≡ Some a →
    FrameFrom h w a.side frame → IsNamed h w given → IsNamed h (gone_on w m (took run frame)) given
took_named h w given m run a frame here q f n =
    let r : IsNamedRun h w given m.0 run = some_at (IsNamedStation h w given m.0) (slice_get w.members m.0) (Busy run) here (n.members m.0) in
    let run' = took run frame in
    let p = phase_after run run.phase frame in
    let v = gone_on w m run' in
    let mem : run'.kept.member.0 ≡ run.kept.member.0 = ap (λ (i : MemberId). i.0) (member_phase run.kept p) in
    let nxt : run'.kept.next_serial ≡ run.kept.next_serial = next_phase run.kept p in
    let own : run'.kept.member.0 ≡ m.0 = mem ∙ r.member in
    let le : run.kept.next_serial ≤ run'.kept.next_serial = omega (arith, nxt) in
    let lt : run'.serial < run'.kept.next_serial = omega (arith, nxt, r.serial) in
    let newer : IsNewer w m.0 run' = record {
      above = λ side request put mm ss.
          let there : slice_get w.members request.ask.member.0 ≡ Some (Busy run) = subst (λ (i : ℕ). slice_get w.members i ≡ Some (Busy run)) (sym mm) here in
          omega (arith, put.current run there ss);
    } in
    gone_named h w given given m (Busy run) run' here le own lt newer (λ i ne. refl) n
    (took_named_at h w v given m.0 run run.phase a frame q r.phase (frame_later h w v (gone_grown w m run') a.side frame f)
    (record { grown = gone_grown w m run'; put = put_found h w given given m (Busy run) run' here le own lt newer (λ i ne. refl) n }))

-- ---- Carry

module _ (h : Honest) (s : Setup) where
  answered_named : (w : World) (made : List Entry) (given : List Given) (side : Side) (request : Request) → IsAsked s made request → IsPut w side request → IsGood s w made → IsNamed h w given
      → IsNamed h (answered w side request).world given
  answered_named w made given side request i p g n =
      let f = folder_of w side in
      let v = (answered w side request).world in
      let frame = reply_frame f request in
      let grown : Grown w v = record {
        more = Replied side request.ask.member frame ∷ [];
        messages = refl;
        folders = folders_with (λ t k. Later (folder_of w t) k) w side (folder_after f request) (Replied side request.ask.member frame ∷ []) (step_later f request.want) (λ t. later_refl (folder_of w t));
      } in
      replied_named h w v given grown refl side request.ask.member frame refl
      (λ honest. record {
        reply = reply_to f request;
        came = reply_read_back (reply_to f request) (reply_is s made f request (g.folders side) i (entry_made s w made g));
        want = request.want;
        put = ask_later w v grown request.ask (to side request.want) p.found;
        tells = own_folder w side (folder_after f request) (Replied side request.ask.member frame ∷ []) (λ k. Rattle.dory_run.specs.Named.Tells k request.want (reply_to f request).what) (step_tells f request.want);
      }) n
    where
      own_folder : (w : World) (side : Side) (k : State) (more : List Message) (P : State → Type 0) → P k → P (folder_of (with_messages (with_folder w side k) more) side)
      own_folder w Lead k more P p = p
      own_folder w Follow k more P p = p

-- ---- Lie, Bend and Quit

lied_named : (h : Honest) (w : World) (given : List Given) (side : Side) (m : MemberId) (frame : List ℕ) → lies h side ≡ true → IsNamed h w given → IsNamed h (with_messages w (Replied side m frame ∷ [])) given
lied_named h w given side m frame e n =
    replied_named h w (with_messages w (Replied side m frame ∷ [])) given (grown_by w (with_messages w (Replied side m frame ∷ [])) (Replied side m frame ∷ []) refl refl refl) refl side m frame refl
    (λ honest. absurd (false≢true (sym honest ∙ e))) n

grown_member : (w : World) (m : MemberId) (x : Station) → Grown w (with_member w m x)
grown_member w m x = grown_by w (with_member w m x) [] (sym (append-nil w.messages)) refl refl

idle_message : (h : Honest) (w : World) (m : MemberId) (x : Station) (k : KeptState) → slice_get w.members m.0 ≡ Some x → (kept_in x).next_serial ≤ k.next_serial →
    (y : Message) → IsNamedMessage h w y → IsNamedMessage h (with_member w m (Idle k)) y
idle_message h w m x k here le (Asked side request) a = record {
  found = a.found;
  old = omega (arith, a.old, next_more w.members m.0 x (Idle k) here le request.ask.member.0);
  current = λ run there same. by_case run there same (cases_eq m.0 request.ask.member.0);
}
  where
    by_case : (run : Run) → slice_get (slice_set w.members m.0 (Idle k)) request.ask.member.0 ≡ Some (Busy run) → run.serial ≡ request.ask.serial →
        ((m.0 ≡ request.ask.member.0) ⊎ (m.0 ≡ request.ask.member.0 → ⊥)) → request.ask.step ≤ run.step
    by_case run there same (inl q) =
        absurd (let l : slice_get (slice_set w.members m.0 (Idle k)) m.0 ≡ Some (Idle k) = get_set_same w.members m.0 (Idle k) (get_within w.members m.0 x here) in
        let l' : slice_get (slice_set w.members m.0 (Idle k)) m.0 ≡ Some (Busy run) = subst (λ (i : ℕ). slice_get (slice_set w.members m.0 (Idle k)) i ≡ Some (Busy run)) (sym q) there in cc)
    by_case run there same (inr ne) = a.current run (sym (get_set_other w.members m.0 request.ask.member.0 (Idle k) ne) ∙ there) same
idle_message h w m x k here le (Replied side j frame) a = frame_later h w (with_member w m (Idle k)) (grown_member w m (Idle k)) side frame a

idle_named : (h : Honest) (w : World) (given given' : List Given) (m : MemberId) (x : Station) (k : KeptState) → slice_get w.members m.0 ≡ Some x → (kept_in x).next_serial ≤ k.next_serial →
    ((i : ℕ) → (m.0 ≡ i → ⊥) → command_of given' i ≡ command_of given i) → IsNamed h w given → IsNamed h (with_member w m (Idle k)) given'
idle_named h w given given' m x k here le others n = record {
  messages = all_map (IsNamedMessage h w) (IsNamedMessage h (with_member w m (Idle k))) w.messages (idle_message h w m x k here le) n.messages;
  members = λ i. by_case i (cases_eq m.0 i);
}
  where
    by_case : (i : ℕ) → ((m.0 ≡ i) ⊎ (m.0 ≡ i → ⊥)) → IfSome (slice_get (slice_set w.members m.0 (Idle k)) i) (IsNamedStation h (with_member w m (Idle k)) given' i)
    by_case i (inl q) = subst (λ (i : ℕ). IfSome (slice_get (slice_set w.members m.0 (Idle k)) i) (IsNamedStation h (with_member w m (Idle k)) given' i)) q
        (subst (λ (o : Option Station). IfSome o (IsNamedStation h (with_member w m (Idle k)) given' m.0)) (sym (get_set_same w.members m.0 (Idle k) (get_within w.members m.0 x here))) tt)
    by_case i (inr ne) = subst (λ (o : Option Station). IfSome o (IsNamedStation h (with_member w m (Idle k)) given' i)) (sym (get_set_other w.members m.0 i (Idle k) ne))
        (some_map (IsNamedStation h w given i) (IsNamedStation h (with_member w m (Idle k)) given' i) (slice_get w.members i)
        (station_later h w (with_member w m (Idle k)) (grown_member w m (Idle k)) given given' i (others i ne)) (n.members i))

-- ---- Begin

turn_later : (n : ℕ) → n ≤ (n / 2 ^ 56 + 1) * 2 ^ 56
turn_later n = omega arith

-- a command is given to one member, and the others have theirs
given_if : (b : Bool) (m i : ℕ) (c : Command) (o : Option Command) → (m == i) ≡ b → (m ≡ i → ⊥) → (if b then Some c else o) ≡ o
given_if true m i c o e ne = absurd (ne (eqb-true m i e))
given_if false m i c o e ne = refl

given_others : (m : MemberId) (c : Command) (given : List Given) (i : ℕ) → (m.0 ≡ i → ⊥) → command_of (given_by (Begin m c) ++ given) i ≡ command_of given i
given_others m c given i ne = given_if (m.0 == i) m.0 i c (command_of given i) refl ne

given_here : (m : MemberId) (c : Command) (given : List Given) → command_of (given_by (Begin m c) ++ given) m.0 ≡ Some c
given_here m c given = ap (λ (b : Bool). if b then Some c else command_of given m.0) (eq-eqb m.0 m.0 refl)

module _ (h : Honest) (w : World) (given : List Given) (m : MemberId) (c : Command) (k : KeptState) (here : slice_get w.members m.0 ≡ Some (Idle k)) (own : k.member.0 ≡ m.0) (n : IsNamed h w given) where
  -- a command that draws a serial that wasn't used up
  drawn_named : (run : Run) → k.next_serial ≤ run.serial → run.serial < run.kept.next_serial → run.kept.member.0 ≡ m.0 → run.step ≡ 0
      → ((v : World) → IsNamedPhase h v (given_by (Begin m c) ++ given) m.0 run run.phase) → IsNamed h (gone_on w m run) (given_by (Begin m c) ++ given)
  drawn_named run le lt mine first phase =
      let newer : IsNewer w m.0 run = record {
        above = λ side request put mm ss. absurd (
            let e : next_of w.members request.ask.member.0 ≡ k.next_serial = subst (λ (i : ℕ). next_of w.members i ≡ k.next_serial) (sym mm) (ap next_in here) in
            omega (arith, put.old, e, ss, le));
      } in
      gone_named h w given (given_by (Begin m c) ++ given) m (Idle k) run here (omega (arith, le, lt)) mine lt newer (given_others m c given) n (phase (gone_on w m run))

  idle_gone : (r : KeptState) (seed : List ℕ) (o : Outcome) → with_member w m (Idle r) ≡ gone_on w m (ended_with r seed o)
  idle_gone r seed o = ap (λ (l : List Message). record { members = slice_set w.members m.0 (Idle r); lead = w.lead; follow = w.follow; messages = l }) (sym (append-nil w.messages))

  ended_named : (r : KeptState) (seed : List ℕ) (o : Outcome) → k.next_serial ≤ r.next_serial → IsNamed h (gone_on w m (ended_with r seed o)) (given_by (Begin m c) ++ given)
  ended_named r seed o le = subst (λ (v : World). IsNamed h v (given_by (Begin m c) ++ given)) (idle_gone r seed o) (idle_named h w given (given_by (Begin m c) ++ given) m (Idle k) r here le (given_others m c given) n)

  ready_later : (b : Bool) → k.next_serial ≤ (if b then turned k else k).next_serial
  ready_later true = turn_later k.next_serial
  ready_later false = omega arith

  ready_own : (b : Bool) → (if b then turned k else k).member.0 ≡ m.0
  ready_own true = own
  ready_own false = own

  started_named : (seed : List ℕ) (run : Run) → Starts k seed c run → IsNamed h (gone_on w m run) (given_by (Begin m c) ++ given)
  started_named seed run (Resumes p is pends l e) =
      subst (λ (run : Run). IsNamed h (gone_on w m run) (given_by (Begin m c) ++ given)) e (drawn_named (asking k seed k.used (Updating (entry_of k p) StageFollow)) (omega arith) (omega arith) own refl (λ v. tt))
  started_named seed run (Searches word is l e) =
      subst (λ (run : Run). IsNamed h (gone_on w m run) (given_by (Begin m c) ++ given)) e
      (drawn_named (asking k seed k.used (Measuring (Some word) None)) (omega arith) (omega arith) own refl (λ v. (refl, given_here m c given ∙ ap (λ (x : Command). Some x) is)))
  started_named seed run (Measures is l e) =
      subst (λ (run : Run). IsNamed h (gone_on w m run) (given_by (Begin m c) ++ given)) e (drawn_named (asking k seed k.used (Measuring None None)) (omega arith) (omega arith) own refl (λ v. (refl, tt)))
  started_named seed run (Posts doc row is l e r) =
      subst (λ (run : Run). IsNamed h (gone_on w m run) (given_by (Begin m c) ++ given)) r
      (drawn_named (posting (ready k) seed doc row) (ready_later (is_used_up k)) (omega arith) (ready_own (is_used_up k)) refl (λ v. tt))
  started_named seed run (Removes doc is l e) =
      subst (λ (run : Run). IsNamed h (gone_on w m run) (given_by (Begin m c) ++ given)) e (drawn_named (removing k seed doc) (omega arith) (omega arith) own refl (λ v. tt))
  started_named seed run (Rests is e) = subst (λ (run : Run). IsNamed h (gone_on w m run) (given_by (Begin m c) ++ given)) e (ended_named k seed NothingPending (omega arith))
  started_named seed run (Rotates is l e) =
      subst (λ (run : Run). IsNamed h (gone_on w m run) (given_by (Begin m c) ++ given)) e (ended_named (turned k) seed (Rotated (epoch_in (turned k).next_serial)) (turn_later k.next_serial))

-- ---- each event

-- what other events give
gives_none : (e : Event) → ((m : MemberId) (c : Command) → e ≡ Begin m c → ⊥) → given_by e ≡ []
gives_none (Begin m c) never = absurd (never m c refl)
gives_none (Carry n) never = refl
gives_none (Return n) never = refl
gives_none (Lie side m bytes) never = refl
gives_none (Bend n at mask) never = refl
gives_none (Quit m) never = refl

unchanged : (h : Honest) (v : World) (given : List Given) (e : Event) → given_by e ≡ [] → IsNamed h v given → IsNamed h v (given_by e ++ given)
unchanged h v given e is n = subst (λ (g : List Given). IsNamed h v (g ++ given)) (sym is) n

-- a member that is refused stays idle
refused_given : (h : Honest) (w : World) (given : List Given) (m : MemberId) (c : Command) → ((run : Run) → slice_get w.members m.0 ≡ Some (Busy run) → ⊥) → IsNamed h w given → IsNamed h w (given_by (Begin m c) ++ given)
refused_given h w given m c idle n = record { messages = n.messages; members = λ i. by i (cases_eq m.0 i) (slice_get w.members i) refl (n.members i) }
  where
    same : Grown w w
    same = grown_by w w [] (sym (append-nil w.messages)) refl refl

    by : (i : ℕ) → ((m.0 ≡ i) ⊎ (m.0 ≡ i → ⊥)) → (o : Option Station) → slice_get w.members i ≡ o → IfSome o (IsNamedStation h w given i) → IfSome o (IsNamedStation h w (given_by (Begin m c) ++ given) i)
    by i q None e a = tt
    by i q (Some (Idle k)) e a = tt
    by i (inl q) (Some (Busy run)) e a = absurd (idle run (subst (λ (i : ℕ). slice_get w.members i ≡ Some (Busy run)) (sym q) e))
    by i (inr ne) (Some (Busy run)) e a = station_later h w w same given (given_by (Begin m c) ++ given) i (given_others m c given i ne) (Busy run) a

pub named_move : (h : Honest) (s : Setup) (w : World) (made : List Entry) (given : List Given) (e : Event) (t : Happened) → Moves h s w e t → IsGood s w made → IsNamed h w given → IsNamed h t.world (given_by e ++ given)
named_move h s w made given e t (Refuses m c f is idle eq) g n =
    subst (λ (t : Happened). IsNamed h t.world (given_by e ++ given)) eq (subst (λ (e : Event). IsNamed h w (given_by e ++ given)) (sym is) (refused_given h w given m c idle n))
named_move h s w made given e t (Begins m c k run is here fit b eq) g n =
    let q : IsStored s made m.0 k = some_at (IsStation s made m.0) (slice_get w.members m.0) (Idle k) here (g.members m.0) in
    let own : k.member.0 ≡ m.0 = ap (λ (i : MemberId). i.0) q.member in
    subst (λ (t : Happened). IsNamed h t.world (given_by e ++ given)) eq
    (subst (λ (e : Event). IsNamed h (gone_on w m run) (given_by e ++ given)) (sym is) (started_named h w given m c k here own n _ run (starts k _ c run b)))
named_move h s w made given e t (Carries i side request is here eq) g n =
    subst (λ (t : Happened). IsNamed h t.world (given_by e ++ given)) eq
    (unchanged h (answered w side request).world given e (ap given_by is)
    (answered_named h s w made given side request (all_get (IsPutRight s made) w.messages i (Asked side request) here g.messages) (all_get (IsNamedMessage h w) w.messages i (Asked side request) here n.messages) g n))
named_move h s w made given e t (Returns i side m frame run a is came here q same eq) g n =
    subst (λ (t : Happened). IsNamed h t.world (given_by e ++ given)) eq
    (unchanged h (gone_on w m (took run frame)) given e (ap given_by is)
    (took_named h w given m run a frame here q
    (subst (λ (t : Side). FrameFrom h w t frame) (sym same) (all_get (IsNamedMessage h w) w.messages i (Replied side m frame) came n.messages)) n))
named_move h s w made given e t (Lies side m frame never l bytes eq) g n =
    subst (λ (t : Happened). IsNamed h t.world (given_by e ++ given)) eq (unchanged h (with_messages w (Replied side m frame ∷ [])) given e (gives_none e never) (lied_named h w given side m frame l n))
named_move h s w made given e t (Quits m run is here eq) g n =
    subst (λ (t : Happened). IsNamed h t.world (given_by e ++ given)) eq
    (unchanged h (with_member w m (Idle run.kept)) given e (ap given_by is) (idle_named h w given given m (Busy run) run.kept here (omega arith) (λ i ne. refl) n))
