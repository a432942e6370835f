-- No command's definition wants memory.
use Rattle.std.proofs.Common.{◌≡◌, ◌≢◌, ℕ, Bool, true, false, List, Option, Some, None, Result, Ok, Err, refl}
use Rattle.std.specs.Prelude.{◌+◌, ◌==◌, ◌&&◌, nat_lt, if◌then◌else◌}
use Rattle.dory_base.specs.declared.ids.Side.{Side}
use Rattle.dory_base.specs.declared.ids.Side.TheVariants as sides
use Rattle.dory_base.specs.declared.ids.AskId.{AskId}
use Rattle.dory_base.specs.declared.ids.UpdateId.{UpdateId}
use Rattle.dory_base.specs.declared.entry.Entry.{Entry}
use Rattle.dory_base.specs.declared.entry.Change.{Change}
use Rattle.dory_base.specs.declared.entry.Change.TheVariants as change
use Rattle.dory_base.specs.declared.ids.DocId.{DocId}
use Rattle.dory_base.specs.declared.refusal.Refusal.{Refusal}
use Rattle.dory_base.specs.declared.refusal.Refusal.TheVariants as refusal
use Rattle.dory_base.specs.declared.found.Found.{Found}
use Rattle.dory_base.specs.Log.{same_id}
use Rattle.dory_hmac.specs.declared.folder_keys.FolderKeys.{FolderKeys}
use Rattle.dory_query.specs.declared.query.Query.{Query}
use Rattle.dory_query.specs.Columns.{asked_columns}
use Rattle.dory_state.specs.declared.kept.Pending.{Pending}
use Rattle.dory_state.specs.declared.kept.KeptState.{KeptState}
use Rattle.dory_wire.specs.declared.message.What.{What}
use Rattle.dory_wire.specs.declared.message.What.TheVariants.{At, Found as Finds, Id, Staged, Committed, Refused}
use Rattle.dory_verify.specs.declared.fault.CheckFault.{CheckFault}
use Rattle.dory_verify.specs.declared.fault.CheckFault.TheVariants as check
use Rattle.dory_verify.specs.Checks.{◌>>=◌, form, echo, lengths_of, first_fault_of}
use Rattle.dory_member.specs.declared.command.Command.{Command}
use Rattle.dory_member.specs.declared.command.Command.TheVariants as command
use Rattle.dory_member.specs.declared.outcome.Mark.{Mark}
use Rattle.dory_member.specs.declared.outcome.Fault.{Fault}
use Rattle.dory_member.specs.declared.outcome.Fault.TheVariants as fault
use Rattle.dory_member.specs.declared.phase.Single.{Single}
use Rattle.dory_member.specs.declared.phase.Single.TheVariants.{Which, Stage, Order, Follow}
use Rattle.dory_member.specs.declared.phase.UpdateStep.{UpdateStep}
use Rattle.dory_member.specs.declared.phase.UpdateStep.TheVariants.{StageFollow, StageLead, OrderLead, FollowOn, WhichOther, FollowOther}
use Rattle.dory_member.specs.declared.phase.Phase.{Phase}
use Rattle.dory_member.specs.declared.phase.Phase.TheVariants.{Updating, Measuring, Searching, Ended}
use Rattle.dory_member.specs.declared.phase.Run.{Run}
use Rattle.dory_member.specs.Course.{after_lengths, after_mark, after_refused, after_search, after_update, begun, fails, folder_keys, if_finished, if_serial, name, phase_after, refused_if, resumed, side_of, single_of, updated}
use Rattle.dory_member.specs.Draw.{is_last_epoch, is_last_serial, is_used_up}
use Rattle.dory_member.specs.Single.{allowed, checked, confirmed, mark, refused, said, taken_by, wanted}

-- what is no want of memory
abbrev Lasts : {A : Type 0} → Result A Fault → Type 0
Lasts r = r ≢ Err fault.NoMemory

abbrev GoesOn : Phase → Type 0
GoesOn p = p ≢ fails fault.NoMemory

check_lasts : {A : Type 0} (r : Result A CheckFault) → Lasts (checked r)
check_lasts (Ok x) e = cc
check_lasts (Err f) e = cc

bind_lasts : {A B : Type 0} (r : Result A Fault) (f : A → Result B Fault) → Lasts r → ((x : A) → Lasts (f x)) → Lasts (r >>= f)
bind_lasts (Ok x) f r g = g x
bind_lasts (Err d) f r g = λ e. r (cc)

wanted_lasts : (b : Bool) (side : Side) (w g : Mark) → Lasts (if b then Ok g else Err (fault.Unconfirmed side w g))
wanted_lasts true side w g e = cc
wanted_lasts false side w g e = cc

wants : (side : Side) (w g : Mark) → Lasts (wanted side w g)
wants side w g = wanted_lasts ((w.number == g.number) && same_id w.id g.id) side w g

-- ---- what a refusal comes to

taken_if : (b : Bool) (side : Side) (n : ℕ) (i : UpdateId) (number : ℕ) (id : UpdateId)
    → (if b then fault.Diverged n i id else fault.Check (check.Refused side (refusal.Taken number id))) ≢ fault.NoMemory
taken_if true side n i number id e = cc
taken_if false side n i number id e = cc

refused_follow : (side : Side) (n : ℕ) (i : UpdateId) (code : Refusal) → refused side (Follow n i) code ≢ fault.NoMemory
refused_follow side n i (refusal.Taken number id) e = taken_if _ side n i number id e
refused_follow side n i refusal.NoFolder e = cc
refused_follow side n i (refusal.ShapeWrong d p) e = cc
refused_follow side n i (refusal.Unretained o w) e = cc
refused_follow side n i (refusal.BadMember m) e = cc
refused_follow side n i (refusal.Past l) e = cc
refused_follow side n i (refusal.Clash d) e = cc
refused_follow side n i (refusal.Unfinished d) e = cc
refused_follow side n i (refusal.Unstaged d) e = cc
refused_follow side n i (refusal.Gap l) e = cc
refused_follow side n i (refusal.WrongRole r) e = cc
refused_follow side n i refusal.HistoryFull e = cc
refused_follow side n i (refusal.NoEntry l) e = cc
refused_follow side n i refusal.NoMemory e = cc

refused_lasts : (side : Side) (ask : Single) (code : Refusal) → refused side ask code ≢ fault.NoMemory
refused_lasts side (Which n) code e = cc
refused_lasts side (Stage i) code e = cc
refused_lasts side (Order i) code e = cc
refused_lasts side (Follow n i) code e = refused_follow side n i code e

said_refused : (side : Side) (ask : Single) (code : Refusal) → Lasts (said side ask (Refused code))
said_refused side ask code e = refused_lasts side ask code (cc)

said_lasts : (side : Side) (ask : Single) (what : What) → Lasts (said side ask what)
said_lasts side ask (Refused code) e = said_refused side ask code e
said_lasts side (Which n) (Id number id) e = wants side (mark n id) (mark number id) e
said_lasts side (Stage i) (Staged id) e = wants side (mark 0 i) (mark 0 id) e
said_lasts side (Stage i) (Committed number id) e = wants side (mark number i) (mark number id) e
said_lasts side (Order i) (Committed number id) e = wants side (mark number i) (mark number id) e
said_lasts side (Follow n i) (Committed number id) e = wants side (mark n i) (mark number id) e
said_lasts side (Which n) (At l) e = cc
said_lasts side (Which n) (Finds f) e = cc
said_lasts side (Which n) (Staged id) e = cc
said_lasts side (Which n) (Committed m id) e = cc
said_lasts side (Stage i) (At l) e = cc
said_lasts side (Stage i) (Finds f) e = cc
said_lasts side (Stage i) (Id m id) e = cc
said_lasts side (Order i) (At l) e = cc
said_lasts side (Order i) (Finds f) e = cc
said_lasts side (Order i) (Id m id) e = cc
said_lasts side (Order i) (Staged id) e = cc
said_lasts side (Follow n i) (At l) e = cc
said_lasts side (Follow n i) (Finds f) e = cc
said_lasts side (Follow n i) (Id m id) e = cc
said_lasts side (Follow n i) (Staged id) e = cc

confirmed_lasts : (side : Side) (ask : Single) (asked : AskId) (frame : List ℕ) → Lasts (confirmed side ask asked frame)
unfolding confirmed
confirmed_lasts side ask asked frame =
    bind_lasts (checked (form side (allowed ask) frame)) _ (check_lasts (form side (allowed ask) frame))
    (λ reply. bind_lasts (checked (echo side asked reply)) _ (check_lasts (echo side asked reply)) (λ e. said_lasts side ask reply.what))

-- ---- where a reply leads

updated_goes : (c : Change) (doc : DocId) (n : ℕ) → GoesOn (Ended (updated c doc n))
updated_goes (change.Post shape row tags) doc n e = cc
updated_goes change.Remove doc n e = cc

other_goes : (b : Bool) (e : Entry) (n at : ℕ) → GoesOn (if b then Updating e (WhichOther n (at + 1)) else Updating e (FollowOn n true))
other_goes true e n at is = cc
other_goes false e n at is = cc

mark_goes : (e : Entry) (at : UpdateStep) (m : Mark) → GoesOn (after_mark e at m)
mark_goes e StageFollow m is = cc
mark_goes e StageLead m is = cc
mark_goes e OrderLead m is = cc
mark_goes e (FollowOn n repaired) m is = updated_goes e.change e.doc n is
mark_goes e (WhichOther n k) m is = cc
mark_goes e (FollowOther n k id) m is = other_goes (nat_lt (k + 1) n) e n k is

gap_if : (b : Bool) (e : Entry) (n l : ℕ)
    → GoesOn (if b then Updating e (WhichOther n (l + 1)) else fails (fault.Check (check.Refused sides.Follow (refusal.Gap l))))
gap_if true e n l is = cc
gap_if false e n l is = cc

follow_goes : (e : Entry) (n : ℕ) (code : Refusal) → GoesOn (after_refused e n (fault.Check (check.Refused sides.Follow code)))
follow_goes e n (refusal.Gap l) is = gap_if (nat_lt (l + 1) n) e n l is
follow_goes e n refusal.NoFolder is = cc
follow_goes e n (refusal.ShapeWrong d p) is = cc
follow_goes e n (refusal.Unretained o w) is = cc
follow_goes e n (refusal.BadMember m) is = cc
follow_goes e n (refusal.Past l) is = cc
follow_goes e n (refusal.Clash d) is = cc
follow_goes e n (refusal.Unfinished d) is = cc
follow_goes e n (refusal.Unstaged d) is = cc
follow_goes e n (refusal.Taken number id) is = cc
follow_goes e n (refusal.WrongRole r) is = cc
follow_goes e n refusal.HistoryFull is = cc
follow_goes e n (refusal.NoEntry l) is = cc
follow_goes e n refusal.NoMemory is = cc

check_goes : (e : Entry) (n : ℕ) (c : CheckFault) → GoesOn (after_refused e n (fault.Check c))
check_goes e n (check.Refused sides.Follow code) is = follow_goes e n code is
check_goes e n (check.Refused sides.Lead code) is = cc
check_goes e n (check.Form side at) is = cc
check_goes e n (check.Echo side asked got) is = cc
check_goes e n (check.Stale side latest seen) is = cc
check_goes e n (check.Version side asked got) is = cc
check_goes e n (check.Manifest place) is = cc
check_goes e n (check.Count side got want) is = cc
check_goes e n (check.TagSum probe got want) is = cc

refused_goes : (e : Entry) (n : ℕ) (f : Fault) → f ≢ fault.NoMemory → GoesOn (after_refused e n f)
refused_goes e n (fault.Check c) h is = check_goes e n c is
refused_goes e n (fault.Unconfirmed side want got) h is = cc
refused_goes e n (fault.Diverged number lead_id follow_id) h is = cc
refused_goes e n (fault.Unfinished id) h is = cc
refused_goes e n fault.SerialEnd h is = cc
refused_goes e n fault.EpochEnd h is = cc
refused_goes e n fault.NoMemory h is = h refl

fails_goes : (f : Fault) → f ≢ fault.NoMemory → GoesOn (fails f)
fails_goes f h is = h (cc)

fault_goes : (e : Entry) (at : UpdateStep) (f : Fault) → f ≢ fault.NoMemory → GoesOn (after_update e at (Err f))
fault_goes e (FollowOn n false) f h is = refused_goes e n f h is
fault_goes e (FollowOn n true) f h is = fails_goes f h is
fault_goes e StageFollow f h is = fails_goes f h is
fault_goes e StageLead f h is = fails_goes f h is
fault_goes e OrderLead f h is = fails_goes f h is
fault_goes e (WhichOther n k) f h is = fails_goes f h is
fault_goes e (FollowOther n k id) f h is = fails_goes f h is

update_goes : (e : Entry) (at : UpdateStep) (r : Result Mark Fault) → Lasts r → GoesOn (after_update e at r)
update_goes e at (Ok m) h is = mark_goes e at m is
update_goes e at (Err f) h is = fault_goes e at f (λ same. h (cc)) is

lengths_goes : (run : Run) (word : Option (List ℕ)) (r : Result (ℕ × ℕ) CheckFault) → GoesOn (after_lengths run word r)
lengths_goes run word (Err f) is = cc
lengths_goes run None (Ok n) is = cc
lengths_goes run (Some word) (Ok n) is = cc

search_goes : (keys : FolderKeys) (q : Query) (r : Result (Found × Found) CheckFault) → GoesOn (after_search keys q r)
search_goes keys q (Ok both) is = cc
search_goes keys q (Err f) is = cc

-- a run that isn't ended by a want of memory isn't after a reply
pub goes_on_with_memory : (run : Run) (p : Phase) (frame : List ℕ) → phase_after run p frame ≡ fails fault.NoMemory → p ≡ fails fault.NoMemory
goes_on_with_memory run (Updating e at) frame is =
    absurd (update_goes e at (confirmed (side_of at) (single_of e.id at) (name run run.step) frame) (confirmed_lasts (side_of at) (single_of e.id at) (name run run.step) frame) is)
goes_on_with_memory run (Measuring word None) frame is = absurd (cc)
goes_on_with_memory run (Measuring word (Some lead)) frame is = absurd (lengths_goes run word (lengths_of run.kept.seen (name run 0) (name run 1) lead frame) is)
goes_on_with_memory run (Searching q None) frame is = absurd (cc)
goes_on_with_memory run (Searching q (Some lead)) frame is =
    absurd (search_goes (folder_keys run.kept) q (first_fault_of (folder_keys run.kept) (asked_columns q) q.version run.kept.seen (name run 2) (name run 3) lead frame) is)
goes_on_with_memory run (Ended outcome) frame is = is

-- ---- how a command begins

-- a command that isn't refused by a want of memory, and doesn't end by one where it begins
abbrev Begins : Result Run Fault → Type 0
Begins (Ok run) = GoesOn run.phase
Begins (Err f) = f ≢ fault.NoMemory

cause_begins : (cause : Bool) (f : Fault) (r : Result Run Fault) → f ≢ fault.NoMemory → Begins r → Begins (refused_if cause f r)
cause_begins true f r h b = h
cause_begins false f r h b = b

finished_begins : (k : KeptState) (p : Option Pending) (r : Result Run Fault) → Begins r → Begins (if_finished k p r)
finished_begins k (Some p) r b = λ e. cc
finished_begins k None r b = b

serial_begins : (k : KeptState) (r : Result Run Fault) → Begins r → Begins (if_serial k r)
serial_begins k r b = cause_begins (is_last_serial k) fault.SerialEnd r (λ e. cc) b

resumed_begins : (k : KeptState) (seed : List ℕ) (p : Option Pending) → Begins (resumed k seed p)
resumed_begins k seed None = λ e. cc
resumed_begins k seed (Some p) = serial_begins k _ (λ e. cc)

begins : (k : KeptState) (seed : List ℕ) (c : Command) → Begins (begun k seed c)
begins k seed (command.Post doc row) =
    finished_begins k k.pending _ (serial_begins k _ (cause_begins (is_used_up k && is_last_epoch k) fault.EpochEnd _ (λ e. cc) (λ e. cc)))
begins k seed (command.Remove doc) = finished_begins k k.pending _ (serial_begins k _ (λ e. cc))
begins k seed (command.Search word) = serial_begins k _ (λ e. cc)
begins k seed command.Resume = resumed_begins k seed k.pending
begins k seed command.Latest = serial_begins k _ (λ e. cc)
begins k seed command.Rotate = cause_begins (is_last_epoch k) fault.EpochEnd _ (λ e. cc) (λ e. cc)

refused_by : (r : Result Run Fault) → Begins r → Lasts r
refused_by (Ok run) b e = cc
refused_by (Err f) b e = b (cc)

begun_by : (r : Result Run Fault) (run : Run) → Begins r → r ≡ Ok run → GoesOn run.phase
begun_by (Ok x) run b e = λ is. b (cc)
begun_by (Err f) run b e = absurd (cc)

pub refused_with_memory : (k : KeptState) (seed : List ℕ) (c : Command) → begun k seed c ≢ Err fault.NoMemory
refused_with_memory k seed c = refused_by (begun k seed c) (begins k seed c)

pub begins_with_memory : (k : KeptState) (seed : List ℕ) (c : Command) (run : Run) → begun k seed c ≡ Ok run → run.phase ≢ fails fault.NoMemory
begins_with_memory k seed c run e = begun_by (begun k seed c) run (begins k seed c) e
