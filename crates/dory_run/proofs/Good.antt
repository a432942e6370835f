-- Each event keeps what holds of the histories, the messages and the members.
use Rattle.std.proofs.Common.{◌≡◌, ℕ, ◌+◌, ◌≤◌, ◌<◌, ◌^◌, Bool, true, false, List, [], ◌∷◌, ◌++◌, length, refl, ap, sym, ◌∙◌, arith, subst, ◌⊎◌, inl, inr}
use Rattle.std.specs.Prelude.{Option, Some, None, IfSome, slice_get, slice_set}
use Rattle.std.specs.List.{AllByRecursion}
use Rattle.std.proofs.lemmas.Bool.{cases_eq}
use Rattle.dory_base.specs.Dims.{column_count}
use Rattle.dory_base.specs.Step.{State}
use Rattle.dory_base.specs.declared.entry.Entry.{Entry}
use Rattle.dory_base.specs.declared.ids.DocId.{DocId}
use Rattle.dory_base.specs.declared.ids.MemberId.{MemberId}
use Rattle.dory_base.specs.declared.ids.Side.{Side}
use Rattle.dory_base.specs.declared.ids.Side.TheVariants.{Lead, Follow}
use Rattle.dory_base.proofs.LogLaws.{get_set_same, get_set_other}
use Rattle.dory_fields.specs.Bytes.{IsBytes}
use Rattle.dory_seal.specs.Seal.{IsSealed}
use Rattle.dory_wire.specs.Spelling.{IsEntry}
use Rattle.dory_wire.specs.declared.message.Request.{Request}
use Rattle.dory_state.specs.Spelling.{IsKeptState, IsPending}
use Rattle.dory_state.specs.declared.kept.KeptState.{KeptState}
use Rattle.dory_member.specs.declared.command.Command.{Command}
use Rattle.dory_member.specs.declared.outcome.Outcome.{Outcome}
use Rattle.dory_member.specs.declared.outcome.Outcome.TheVariants.{Posted, Removed, Accepted, NothingPending, Lengths, Rotated, Failed}
use Rattle.dory_member.specs.declared.phase.Phase.{Phase}
use Rattle.dory_member.specs.declared.phase.Phase.TheVariants.{Updating, Measuring, Searching, Ended}
use Rattle.dory_member.specs.declared.phase.Run.{Run}
use Rattle.dory_member.specs.declared.phase.UpdateStep.TheVariants.{StageFollow}
use Rattle.dory_member.specs.Course.{Ask, ask_request, asking, asks, ended_with, entry_of, finished, kept_at, new_update, phase_after, posting, removing, took, update_run}
use Rattle.dory_member.specs.Draw.{drawn, epoch_in, is_last_serial, is_used_up, ready, turned}
use Rattle.dory_member.proofs.Kept.{drawn_is}
use Rattle.dory_member.proofs.Starts.{update_run_is}
use Rattle.dory_run.specs.declared.event.Event.{Event}
use Rattle.dory_run.specs.declared.event.Honest.{Honest}
use Rattle.dory_run.specs.declared.setup.Setup.{Setup}
use Rattle.dory_run.specs.Happening.{Happened, answered, fits, folder_after, gone_on, makes, puts, reply_to, reply_frame, settled, station_at}
use Rattle.dory_run.specs.Kept.{IsAsked, IsFolder, IsGood, IsKnown, IsPhase, IsPutRight, IsRunning, IsStation, IsStored, next_in, next_of}
use Rattle.dory_run.specs.Law.{IsMade, kept_in}
use Rattle.dory_run.specs.Start.{fresh, keys_in}
use Rattle.dory_run.specs.World.{Station, Idle, Busy, Message, Asked, Replied, World, folder_of, with_folder, with_member, with_messages}
use Rattle.dory_run.proofs.Folders.{folder_step}
use Rattle.dory_run.proofs.Lists.{all_append, all_get, all_map, get_set_cases, get_within, some_at, some_map}
use Rattle.dory_run.proofs.Made.{grow_folder, grow_message, grow_station, grows_by_new, made_first, made_known, unmade}
use Rattle.dory_run.proofs.Moves.{Moves, Begins, Carries, Lies, Quits, Refuses, Returns}
use Rattle.dory_run.proofs.Phases.{EndSeen, kept_range, phase_asked, phase_end, phase_range}
use Rattle.dory_run.proofs.Replies.{reply_bytes, reply_is}
use Rattle.dory_run.proofs.Starts.{Measures, Posts, Removes, Rests, Resumes, Rotates, Searches, Starts, doc_fits, entry_sealed, entry_stored, epoch_left, left, ready_is, row_fits, starts, turned_stored}

-- ---- folders of a world

-- what holds of each folder holds of each in a world with the same
pub folders_as : (P : Side → State → Type 0) (w v : World) → v.lead ≡ w.lead → v.follow ≡ w.follow → ((side : Side) → P side (folder_of w side)) → (side : Side) → P side (folder_of v side)
folders_as P w v l f h Lead = subst (P Lead) (sym l) (h Lead)
folders_as P w v l f h Follow = subst (P Follow) (sym f) (h Follow)

-- one of them is another
pub folders_with : (P : Side → State → Type 0) (w : World) (side : Side) (g : State) (more : List Message) → P side g → ((t : Side) → P t (folder_of w t)) → (t : Side) → P t (folder_of (with_messages (with_folder w side g) more) t)
folders_with P w Lead g more new old Lead = new
folders_with P w Lead g more new old Follow = old Follow
folders_with P w Follow g more new old Lead = old Lead
folders_with P w Follow g more new old Follow = new

-- ---- members of a world

pub next_settled : (run : Run) (p : Phase) → (kept_in (station_at run p)).next_serial ≡ run.kept.next_serial
next_settled run (Updating e at) = refl
next_settled run (Measuring word lead) = refl
next_settled run (Searching q lead) = refl
next_settled run (Ended outcome) = refl

pub next_more : (xs : List Station) (m : ℕ) (x y : Station) → slice_get xs m ≡ Some x → (kept_in x).next_serial ≤ (kept_in y).next_serial →
    (i : ℕ) → next_of xs i ≤ next_of (slice_set xs m y) i
next_more xs m x y here le i = by_case (cases_eq m i)
  where
    by_case : ((m ≡ i) ⊎ (m ≡ i → ⊥)) → next_of xs i ≤ next_of (slice_set xs m y) i
    by_case (inl q) =
        subst (λ (i : ℕ). next_of xs i ≤ next_of (slice_set xs m y) i) q
        (let a : next_of xs m ≡ (kept_in x).next_serial = ap next_in here in
        let b : next_of (slice_set xs m y) m ≡ (kept_in y).next_serial = ap next_in (get_set_same xs m y (get_within xs m x here)) in
        omega (arith, a, b, le))
    by_case (inr ne) = let a : next_of (slice_set xs m y) i ≡ next_of xs i = ap next_in (get_set_other xs m i y ne) in omega (arith, a)

module _ (s : Setup) where
  settled_at : (made : List Entry) (m : ℕ) (run : Run) (p : Phase) → IsRunning s made m run → IsStation s made m (station_at run p)
  settled_at made m run (Updating e at) h = h
  settled_at made m run (Measuring word lead) h = h
  settled_at made m run (Searching q lead) h = h
  settled_at made m run (Ended outcome) h = h.kept

  members_set : (made : List Entry) (xs : List Station) (m : ℕ) (x : Station) → ((i : ℕ) → IfSome (slice_get xs i) (IsStation s made i)) → IsStation s made m x →
      (i : ℕ) → IfSome (slice_get (slice_set xs m x) i) (IsStation s made i)
  members_set made xs m x old new i = by_case (cases_eq m i)
    where
      here : ((slice_get (slice_set xs m x) i ≡ Some x) ⊎ (slice_get (slice_set xs m x) i ≡ slice_get xs i)) → m ≡ i → IfSome (slice_get (slice_set xs m x) i) (IsStation s made i)
      here (inl e) q = subst (λ (o : Option Station). IfSome o (IsStation s made i)) (sym e) (subst (λ (i : ℕ). IsStation s made i x) q new)
      here (inr e) q = subst (λ (o : Option Station). IfSome o (IsStation s made i)) (sym e) (old i)

      by_case : ((m ≡ i) ⊎ (m ≡ i → ⊥)) → IfSome (slice_get (slice_set xs m x) i) (IsStation s made i)
      by_case (inl q) = here (get_set_cases xs m i x) q
      by_case (inr ne) = subst (λ (o : Option Station). IfSome o (IsStation s made i)) (sym (get_set_other xs m i x ne)) (old i)

  known_more : (xs ys : List Station) (made : List Entry) → ((i : ℕ) → next_of xs i ≤ next_of ys i) → AllByRecursion (IsKnown s xs) made → AllByRecursion (IsKnown s ys) made
  known_more xs ys made le h = all_map (IsKnown s xs) (IsKnown s ys) made (λ e k. record { entry = k.entry; sealed = k.sealed; below = omega (arith, k.below, le e.id.member.0) }) h

  -- an update that was made is in range
  pub entry_made : (w : World) (made : List Entry) → IsGood s w made → (e : Entry) → IsMade made e → IsEntry e
  entry_made w made g e is = (made_known (IsKnown s w.members) made e.id e g.known is).entry

  pub sealed_made : (w : World) (made : List Entry) → IsGood s w made → (e : Entry) → IsMade made e → IsSealed (keys_in s) e
  sealed_made w made g e is = (made_known (IsKnown s w.members) made e.id e g.known is).sealed

  puts_good : (made : List Entry) (run : Run) (o : Option Ask) → IfSome o (λ a. IsAsked s made (ask_request run a)) → AllByRecursion (IsPutRight s made) (puts run o)
  puts_good made run None h = tt
  puts_good made run (Some a) h = (h, tt)

  -- a command goes on
  good_gone : (w : World) (made : List Entry) (m : MemberId) (run : Run) → ((side : Side) → IsFolder s made (folder_of w side)) → AllByRecursion (IsPutRight s made) w.messages
      → ((i : ℕ) → IfSome (slice_get w.members i) (IsStation s made i)) → IsRunning s made m.0 run → AllByRecursion (IsKnown s (slice_set w.members m.0 (settled run))) made → IsGood s (gone_on w m run) made
  good_gone w made m run folders messages members h known = record {
    folders = folders_as (λ side f. IsFolder s made f) w (gone_on w m run) refl refl folders;
    messages = all_append (IsPutRight s made) w.messages (puts run (asks run.phase)) messages
        (puts_good made run (asks run.phase) (phase_asked s made m.0 run h (λ e is. (made_known (IsKnown s (slice_set w.members m.0 (settled run))) made e.id e known is).entry)));
    members = members_set made w.members m.0 (settled run) members (settled_at made m.0 run run.phase h);
    known = known;
  }

  -- nothing new is made
  good_on : (w : World) (made : List Entry) (m : MemberId) (x : Station) (run : Run) → slice_get w.members m.0 ≡ Some x → (kept_in x).next_serial ≤ run.kept.next_serial → IsRunning s made m.0 run → IsGood s w made
      → IsGood s (gone_on w m run) made
  good_on w made m x run here le h g =
      good_gone w made m run g.folders g.messages g.members h
      (known_more w.members (slice_set w.members m.0 (settled run)) made (next_more w.members m.0 x (settled run) here (omega (arith, next_settled run run.phase, le))) g.known)

  -- ---- Return

  kept_same : (made : List Entry) (m : ℕ) (k : KeptState) (o : Outcome) → IsStored s made m k → IsKeptState (finished k o) → IsStored s made m (finished k o)
  kept_same made m k (Posted doc n) h r = record { state = r; member = h.member; folder = h.folder; shape = h.shape; master = h.master; pending = tt }
  kept_same made m k (Removed doc n) h r = record { state = r; member = h.member; folder = h.folder; shape = h.shape; master = h.master; pending = tt }
  kept_same made m k (Accepted answer) h r = record { state = r; member = h.member; folder = h.folder; shape = h.shape; master = h.master; pending = h.pending }
  kept_same made m k NothingPending h r = h
  kept_same made m k (Lengths lead follow seen) h r = h
  kept_same made m k (Rotated epoch) h r = h
  kept_same made m k (Failed f) h r = h

  stored_at : (made : List Entry) (m : ℕ) (k : KeptState) (p : Phase) → IsStored s made m k → IsKeptState (kept_at k p) → IsStored s made m (kept_at k p)
  stored_at made m k (Updating e at) h r = h
  stored_at made m k (Measuring word lead) h r = h
  stored_at made m k (Searching q lead) h r = h
  stored_at made m k (Ended outcome) h r = kept_same made m k outcome h r

  no_end : (p : Phase) (a : Ask) → asks p ≡ Some a → EndSeen p
  no_end (Updating e at) a q = tt
  no_end (Measuring word lead) a q = tt
  no_end (Searching q lead) a k = tt
  no_end (Ended outcome) a q = absurd (cc)

  took_running : (made : List Entry) (m : ℕ) (run : Run) (a : Ask) (frame : List ℕ) → asks run.phase ≡ Some a → IsRunning s made m run → IsBytes frame → IsRunning s made m (took run frame)
  took_running made m run a frame q h bytes =
      let p = phase_after run run.phase frame in
      record {
        kept = stored_at made m run.kept p h.kept (kept_range run.kept p h.kept.state (phase_end made run run.phase frame h.phase (no_end run.phase a q)));
        serial = h.serial;
        phase = phase_range made run run.phase frame h.kept.state h.phase bytes;
      }

next_finished : (k : KeptState) (o : Outcome) → (finished k o).next_serial ≡ k.next_serial
next_finished k (Posted doc n) = refl
next_finished k (Removed doc n) = refl
next_finished k (Accepted answer) = refl
next_finished k NothingPending = refl
next_finished k (Lengths lead follow seen) = refl
next_finished k (Rotated epoch) = refl
next_finished k (Failed f) = refl

pub next_phase : (k : KeptState) (p : Phase) → (kept_at k p).next_serial ≡ k.next_serial
next_phase k (Updating e at) = refl
next_phase k (Measuring word lead) = refl
next_phase k (Searching q lead) = refl
next_phase k (Ended outcome) = next_finished k outcome

module _ (s : Setup) where
  good_took : (w : World) (made : List Entry) (m : MemberId) (run : Run) (a : Ask) (frame : List ℕ) → slice_get w.members m.0 ≡ Some (Busy run) → asks run.phase ≡ Some a → IsBytes frame → IsGood s w made
      → IsGood s (gone_on w m (took run frame)) made
  good_took w made m run a frame here q bytes g =
      let h : IsRunning s made m.0 run = some_at (IsStation s made m.0) (slice_get w.members m.0) (Busy run) here (g.members m.0) in
      let e : (took run frame).kept.next_serial ≡ run.kept.next_serial = next_phase run.kept (phase_after run run.phase frame) in
      good_on s w made m (Busy run) (took run frame) here (omega (arith, e)) (took_running s made m.0 run a frame q h bytes) g

  -- ---- Carry

  good_answered : (w : World) (made : List Entry) (side : Side) (request : Request) → IsAsked s made request → IsGood s w made → IsGood s (answered w side request).world made
  good_answered w made side request h g = record {
    folders = folders_with (λ t f. IsFolder s made f) w side (folder_after (folder_of w side) request) (Replied side request.ask.member (reply_frame (folder_of w side) request) ∷ [])
        (folder_step s made (folder_of w side) request.want h.want (entry_made s w made g) (g.folders side)) g.folders;
    messages = all_append (IsPutRight s made) w.messages (Replied side request.ask.member (reply_frame (folder_of w side) request) ∷ []) g.messages
        (reply_bytes (reply_to (folder_of w side) request) (reply_is s made (folder_of w side) request (g.folders side) h (entry_made s w made g)), tt);
    members = g.members;
    known = g.known;
  }

  -- ---- Lie, Bend and Quit

  good_told : (w : World) (made : List Entry) (side : Side) (m : MemberId) (frame : List ℕ) → IsBytes frame → IsGood s w made → IsGood s (with_messages w (Replied side m frame ∷ [])) made
  good_told w made side m frame bytes g = record {
    folders = folders_as (λ t f. IsFolder s made f) w (with_messages w (Replied side m frame ∷ [])) refl refl g.folders;
    messages = all_append (IsPutRight s made) w.messages (Replied side m frame ∷ []) g.messages (bytes, tt);
    members = g.members;
    known = g.known;
  }

  good_quit : (w : World) (made : List Entry) (m : MemberId) (run : Run) → slice_get w.members m.0 ≡ Some (Busy run) → IsGood s w made → IsGood s (with_member w m (Idle run.kept)) made
  good_quit w made m run here g =
      let h : IsRunning s made m.0 run = some_at (IsStation s made m.0) (slice_get w.members m.0) (Busy run) here (g.members m.0) in
      record {
        folders = folders_as (λ t f. IsFolder s made f) w (with_member w m (Idle run.kept)) refl refl g.folders;
        messages = g.messages;
        members = members_set s made w.members m.0 (Idle run.kept) g.members h.kept;
        known = known_more s w.members (slice_set w.members m.0 (Idle run.kept)) made (next_more w.members m.0 (Busy run) (Idle run.kept) here (omega arith)) g.known;
      }

  -- ---- Begin

  drawn_stored : (made : List Entry) (m : ℕ) (k : KeptState) → IsStored s made m k → k.next_serial < 18446744073709551615 → IsStored s made m (drawn k k.used)
  drawn_stored made m k h l = record {
    state = drawn_is k k.used h.state l h.state.used;
    member = h.member;
    folder = h.folder;
    shape = h.shape;
    master = h.master;
    pending = h.pending;
  }

  good_asking : (w : World) (made : List Entry) (m : MemberId) (k : KeptState) (seed : List ℕ) (p : Phase) → slice_get w.members m.0 ≡ Some (Idle k) → is_last_serial k ≡ false → IsPhase made p 0 → IsGood s w made
      → IsGood s (gone_on w m (asking k seed k.used p)) made
  good_asking w made m k seed p here l h g =
      let q : IsStored s made m.0 k = some_at (IsStation s made m.0) (slice_get w.members m.0) (Idle k) here (g.members m.0) in
      let few = left k q.state l in
      good_on s w made m (Idle k) (asking k seed k.used p) here (omega arith) (record { kept = drawn_stored made m.0 k q few; serial = q.state.serials; phase = h }) g

  good_ended : (w : World) (made : List Entry) (m : MemberId) (k r : KeptState) (seed : List ℕ) (o : Outcome) → slice_get w.members m.0 ≡ Some (Idle k) → k.next_serial ≤ r.next_serial → IsStored s made m.0 r → IsGood s w made
      → IsGood s (gone_on w m (ended_with r seed o)) made
  good_ended w made m k r seed o here le q g = good_on s w made m (Idle k) (ended_with r seed o) here le (record { kept = q; serial = omega arith; phase = tt }) g

  -- a new update, in a state that is ready for it
  good_update : (w : World) (made : List Entry) (m : MemberId) (k r : KeptState) (seed : List ℕ) (used : ℕ) (doc : DocId) (row : Option (List Bool)) → slice_get w.members m.0 ≡ Some (Idle k)
      → IsStored s made m.0 r → k.next_serial ≤ r.next_serial → r.next_serial < 18446744073709551615 → used ≤ 65536 → doc.0 < 2 ^ 32 → IfSome row (λ cells. length cells ≡ column_count r.shape) → IsGood s w made
      → IsGood s (gone_on w m (update_run r seed used (new_update r doc row))) (entry_of r (new_update r doc row) ∷ made)
  good_update w made m k r seed used doc row here q later few le is_doc fits g =
      let p = new_update r doc row in
      let x = entry_of r p in
      let run = update_run r seed used p in
      let pending : IsPending r.shape (2 ^ 64) p = record { serial = q.state.next; past = omega (arith, few); doc = is_doc; row = fits } in
      let range = update_run_is r seed used p q.state few le refl pending in
      let own : r.member.0 ≡ m.0 = ap (λ (i : MemberId). i.0) q.member in
      let next : next_of w.members m.0 ≡ k.next_serial = ap next_in here in
      let low : next_of w.members r.member.0 ≤ r.next_serial = subst (λ (i : ℕ). next_of w.members i ≤ r.next_serial) (sym own) (omega (arith, next, later)) in
      let grows = grows_by_new x made (unmade s w.members made x.id g.known low) in
      let is_made : IsMade (x ∷ made) x = made_first x made in
      let next' : next_of (slice_set w.members m.0 (settled run)) m.0 ≡ r.next_serial + 1 = ap next_in (get_set_same w.members m.0 (settled run) (get_within w.members m.0 (Idle k) here)) in
      let more = next_more w.members m.0 (Idle k) (settled run) here (omega (arith, later)) in
      good_gone s w (x ∷ made) m run
      (λ side. grow_folder s made (x ∷ made) grows (folder_of w side) (g.folders side))
      (all_map (IsPutRight s made) (IsPutRight s (x ∷ made)) w.messages (grow_message s made (x ∷ made) grows) g.messages)
      (λ i. some_map (IsStation s made i) (IsStation s (x ∷ made) i) (slice_get w.members i) (grow_station s made (x ∷ made) grows i) (g.members i))
      (record {
        kept = record { state = range.kept; member = q.member; folder = q.folder; shape = q.shape; master = q.master; pending = subst (IsMade (x ∷ made)) (entry_stored s made m.0 r p q) is_made };
        serial = range.serial;
        phase = (is_made, tt, omega arith);
      }) (
        record {
          entry = range.phase.0;
          sealed = entry_sealed s made m.0 r p q fits;
          below = subst (λ (i : ℕ). r.next_serial < next_of (slice_set w.members m.0 (settled run)) i) (sym own) (omega (arith, next'));
        },
        known_more s w.members (slice_set w.members m.0 (settled run)) made more g.known,
      )

  pub good_started : (w : World) (made : List Entry) (m : MemberId) (c : Command) (k : KeptState) (seed : List ℕ) (run : Run) → slice_get w.members m.0 ≡ Some (Idle k) → fits k.shape c ≡ true → Starts k seed c run → IsGood s w made
      → IsGood s (gone_on w m run) (makes c run ++ made)
  good_started w made m c k seed run here fit (Resumes p is pends l e) g =
      let q : IsStored s made m.0 k = some_at (IsStation s made m.0) (slice_get w.members m.0) (Idle k) here (g.members m.0) in
      let made_p : IsMade made (entry_of k p) = subst (IsMade made) (sym (entry_stored s made m.0 k p q)) (some_at (λ p. IsMade made (entry_of (fresh s m.0) p)) k.pending p pends q.pending) in
      subst (λ (run : Run). IsGood s (gone_on w m run) (makes c run ++ made)) e
      (subst (λ (c : Command). IsGood s (gone_on w m (asking k seed k.used (Updating (entry_of k p) StageFollow))) (makes c (asking k seed k.used (Updating (entry_of k p) StageFollow)) ++ made)) (sym is)
      (good_asking w made m k seed (Updating (entry_of k p) StageFollow) here l (made_p, tt, omega arith) g))
  good_started w made m c k seed run here fit (Searches word is l e) g =
      subst (λ (run : Run). IsGood s (gone_on w m run) (makes c run ++ made)) e
      (subst (λ (c : Command). IsGood s (gone_on w m (asking k seed k.used (Measuring (Some word) None))) (makes c (asking k seed k.used (Measuring (Some word) None)) ++ made)) (sym is)
      (good_asking w made m k seed (Measuring (Some word) None) here l (omega arith) g))
  good_started w made m c k seed run here fit (Measures is l e) g =
      subst (λ (run : Run). IsGood s (gone_on w m run) (makes c run ++ made)) e
      (subst (λ (c : Command). IsGood s (gone_on w m (asking k seed k.used (Measuring None None))) (makes c (asking k seed k.used (Measuring None None)) ++ made)) (sym is)
      (good_asking w made m k seed (Measuring None None) here l (omega arith) g))
  good_started w made m c k seed run here fit (Posts doc row is l e r) g =
      let q : IsStored s made m.0 k = some_at (IsStation s made m.0) (slice_get w.members m.0) (Idle k) here (g.members m.0) in
      let y = ready_is s made m.0 k (is_used_up k) refl q l e in
      let f = row_fits k.shape doc row (subst (λ (c : Command). fits k.shape c ≡ true) is fit) in
      subst (λ (run : Run). IsGood s (gone_on w m run) (makes c run ++ made)) r
      (subst (λ (c : Command). IsGood s (gone_on w m (posting (ready k) seed doc row)) (makes c (posting (ready k) seed doc row) ++ made)) (sym is)
      (good_update w made m k (ready k) seed ((ready k).used + 1) doc (Some row) here y.stored y.later y.left (omega (arith, y.used)) f.1
      (subst (λ (d : Rattle.dory_base.specs.Dims.Dims). length row ≡ column_count d) (q.shape ∙ sym y.stored.shape) f.0) g))
  good_started w made m c k seed run here fit (Removes doc is l e) g =
      let q : IsStored s made m.0 k = some_at (IsStation s made m.0) (slice_get w.members m.0) (Idle k) here (g.members m.0) in
      subst (λ (run : Run). IsGood s (gone_on w m run) (makes c run ++ made)) e
      (subst (λ (c : Command). IsGood s (gone_on w m (removing k seed doc)) (makes c (removing k seed doc) ++ made)) (sym is)
      (good_update w made m k k seed k.used doc None here q (omega arith) (left k q.state l) q.state.used (doc_fits doc.0 (subst (λ (c : Command). fits k.shape c ≡ true) is fit)) tt g))
  good_started w made m c k seed run here fit (Rests is e) g =
      let q : IsStored s made m.0 k = some_at (IsStation s made m.0) (slice_get w.members m.0) (Idle k) here (g.members m.0) in
      subst (λ (run : Run). IsGood s (gone_on w m run) (makes c run ++ made)) e
      (subst (λ (c : Command). IsGood s (gone_on w m (ended_with k seed NothingPending)) (makes c (ended_with k seed NothingPending) ++ made)) (sym is)
      (good_ended w made m k k seed NothingPending here (omega arith) q g))
  good_started w made m c k seed run here fit (Rotates is l e) g =
      let q : IsStored s made m.0 k = some_at (IsStation s made m.0) (slice_get w.members m.0) (Idle k) here (g.members m.0) in
      let few = epoch_left k q.state l in
      subst (λ (run : Run). IsGood s (gone_on w m run) (makes c run ++ made)) e
      (subst (λ (c : Command). IsGood s (gone_on w m (ended_with (turned k) seed (Rotated (epoch_in (turned k).next_serial)))) (makes c (ended_with (turned k) seed (Rotated (epoch_in (turned k).next_serial))) ++ made)) (sym is)
      (good_ended w made m k (turned k) seed (Rotated (epoch_in (turned k).next_serial)) here (omega arith) (turned_stored s made m.0 k q few) g))

  -- ---- each event

  pub good_move : (h : Honest) (w : World) (made : List Entry) (e : Event) (t : Happened) → Moves h s w e t → IsGood s w made → IsGood s t.world (t.made ++ made)
  good_move h w made e t (Refuses m c f is idle eq) g = subst (λ (t : Happened). IsGood s t.world (t.made ++ made)) eq g
  good_move h w made e t (Begins m c k run is here fit b eq) g =
      subst (λ (t : Happened). IsGood s t.world (t.made ++ made)) eq (good_started w made m c k _ run here fit (starts k _ c run b) g)
  good_move h w made e t (Carries n side request is here eq) g =
      subst (λ (t : Happened). IsGood s t.world (t.made ++ made)) eq (good_answered w made side request (all_get (IsPutRight s made) w.messages n (Asked side request) here g.messages) g)
  good_move h w made e t (Returns n side m frame run a is came here q same eq) g =
      subst (λ (t : Happened). IsGood s t.world (t.made ++ made)) eq
      (good_took w made m run a frame here q (all_get (IsPutRight s made) w.messages n (Replied side m frame) came g.messages) g)
  good_move h w made e t (Lies side m frame never l bytes eq) g = subst (λ (t : Happened). IsGood s t.world (t.made ++ made)) eq (good_told w made side m frame bytes g)
  good_move h w made e t (Quits m run is here eq) g = subst (λ (t : Happened). IsGood s t.world (t.made ++ made)) eq (good_quit w made m run here g)
