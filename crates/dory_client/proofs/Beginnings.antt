-- How a command may begin: with an update, with a search, with the two lengths, or at its end.
use Rattle.std.specs.Prelude.{◌&&◌, if◌then◌else◌}
use Rattle.std.proofs.Common.{◌≡◌, ℕ, Bool, true, false, List, Option, None, Some, Result, Ok, Err, refl, subst}
use Rattle.dory_base.specs.declared.entry.Entry.{Entry}
use Rattle.dory_state.specs.declared.kept.KeptState.{KeptState}
use Rattle.dory_state.specs.declared.kept.Pending.{Pending}
use Rattle.dory_member.specs.declared.command.Command.{Command}
use Rattle.dory_member.specs.declared.command.Command.TheVariants as command
use Rattle.dory_member.specs.declared.outcome.Fault.{Fault}
use Rattle.dory_member.specs.declared.outcome.Fault.TheVariants as fault
use Rattle.dory_member.specs.declared.outcome.Outcome.{Outcome}
use Rattle.dory_member.specs.declared.outcome.Outcome.TheVariants.{NothingPending, Rotated}
use Rattle.dory_member.specs.declared.phase.Phase.TheVariants.{Updating, Measuring, Ended}
use Rattle.dory_member.specs.declared.phase.Run.{Run}
use Rattle.dory_member.specs.declared.phase.UpdateStep.TheVariants.{StageFollow}
use Rattle.dory_member.specs.Course.{asking, begun, ended_with, id_of, if_finished, if_serial, posting, refused_if, removing, resumed}
use Rattle.dory_client.specs.CallCauses.{IsOfNoAsk}
use Rattle.dory_client.specs.CommandEnds.{IsGood}
use Rattle.dory_client.specs.Ends.{fault_end}
use Rattle.dory_member.specs.Draw.{epoch_in, is_last_epoch, is_last_serial, is_used_up, ready, turned}

pub data Kind (k : KeptState) (seed : List ℕ) (c : Command) (run : Run) : Type 0 where
  Updates : (e : Entry) → run.phase ≡ Updating e StageFollow → Kind k seed c run
  Searches : (word : List ℕ) → c ≡ command.Search word → run ≡ asking k seed k.used (Measuring (Some word) None) → Kind k seed c run
  Measures : c ≡ command.Latest → run ≡ asking k seed k.used (Measuring None None) → Kind k seed c run
  Rests : (o : Outcome) → IsGood o → run.phase ≡ Ended o → Kind k seed c run

-- a run that begins in a state: what was seen there, its folder, and its kind
pub record IsBeginning (k : KeptState) (seed : List ℕ) (c : Command) (run : Run) : Type 0 where
  pub seen : run.kept.seen ≡ k.seen
  pub folder : run.kept.folder ≡ k.folder
  pub kind : Kind k seed c run

abbrev ok_run : Run → Result Run Fault
ok_run run = Ok run

ok_if : (b : Bool) (f : Fault) (r : Result Run Fault) (run : Run) → refused_if b f r ≡ ok_run run → r ≡ ok_run run
ok_if true f r run e = absurd (cc)
ok_if false f r run e = e

finished : (k : KeptState) (p : Option Pending) (r : Result Run Fault) (run : Run) → if_finished k p r ≡ ok_run run → r ≡ ok_run run
finished k (Some p) r run e = absurd (cc)
finished k None r run e = e

ready_seen : (k : KeptState) (b : Bool) → is_used_up k ≡ b → ((ready k).seen ≡ k.seen) × ((ready k).folder ≡ k.folder)
ready_seen k b e = by (is_used_up k)
  where
    by : (u : Bool) → ((if u then turned k else k).seen ≡ k.seen) × ((if u then turned k else k).folder ≡ k.folder)
    by true = (refl, refl)
    by false = (refl, refl)

begins_as : (k : KeptState) (seed : List ℕ) (c : Command) (r run : Run) → ok_run r ≡ ok_run run → IsBeginning k seed c r → IsBeginning k seed c run
begins_as k seed c r run e b = let same : r ≡ run = cc in subst (IsBeginning k seed c) same b

taken_up : (k : KeptState) (seed : List ℕ) (p : Option Pending) (run : Run) → resumed k seed p ≡ ok_run run → IsBeginning k seed command.Resume run
taken_up k seed None run e = begins_as k seed command.Resume _ run e (record { seen = refl; folder = refl; kind = Rests NothingPending (λ f is. cc) refl })
taken_up k seed (Some p) run e = begins_as k seed command.Resume _ run (ok_if _ _ _ run e) (record { seen = refl; folder = refl; kind = Updates _ refl })

pub beginning : (k : KeptState) (seed : List ℕ) (c : Command) (run : Run) → begun k seed c ≡ Ok run → IsBeginning k seed c run
beginning k seed (command.Post doc row) run e =
    let r = ready_seen k (is_used_up k) refl in
    let made : Result Run Fault = Ok (posting (ready k) seed doc row) in
    let unless_spent : Result Run Fault = refused_if (is_used_up k && is_last_epoch k) fault.EpochEnd made in
    let free = finished k k.pending (if_serial k unless_spent) run e in
    let serial = ok_if (is_last_serial k) fault.SerialEnd unless_spent run free in
    begins_as k seed (command.Post doc row) (posting (ready k) seed doc row) run (ok_if (is_used_up k && is_last_epoch k) fault.EpochEnd made run serial) (record { seen = r.0; folder = r.1; kind = Updates _ refl })
beginning k seed (command.Remove doc) run e = begins_as k seed (command.Remove doc) (removing k seed doc) run (ok_if _ _ _ run (finished k k.pending _ run e)) (record { seen = refl; folder = refl; kind = Updates _ refl })
beginning k seed (command.Search word) run e = begins_as k seed (command.Search word) _ run (ok_if _ _ _ run e) (record { seen = refl; folder = refl; kind = Searches word refl refl })
beginning k seed command.Resume run e = taken_up k seed k.pending run e
beginning k seed command.Latest run e = begins_as k seed command.Latest _ run (ok_if _ _ _ run e) (record { seen = refl; folder = refl; kind = Measures refl refl })
beginning k seed command.Rotate run e = begins_as k seed command.Rotate _ run (ok_if _ _ _ run e) (record { seen = refl; folder = refl; kind = Rests (Rotated (epoch_in (turned k).next_serial)) (λ f is. cc) refl })

-- ---- the runs of commands that are one run

if_last : (k : KeptState) (r run : Run) → if_serial k (Ok r) ≡ ok_run run → run ≡ r
if_last k r run e = let same : ok_run r ≡ ok_run run = ok_if (is_last_serial k) fault.SerialEnd (Ok r) run e in cc

-- the run of a search
pub search_begins : (k : KeptState) (seed word : List ℕ) (run : Run) → begun k seed (command.Search word) ≡ Ok run → run ≡ asking k seed k.used (Measuring (Some word) None)
search_begins k seed word run e = if_last k _ run e

-- and of the two lengths
pub latest_begins : (k : KeptState) (seed : List ℕ) (run : Run) → begun k seed command.Latest ≡ Ok run → run ≡ asking k seed k.used (Measuring None None)
latest_begins k seed run e = if_last k _ run e

-- the runs that ask nothing
pub rotate_begins : (k : KeptState) (seed : List ℕ) (run : Run) → begun k seed command.Rotate ≡ Ok run → (o : Outcome) × IsGood o × (run.phase ≡ Ended o)
rotate_begins k seed run e =
    let o : Outcome = Rotated (epoch_in (turned k).next_serial) in
    let same : ok_run (ended_with (turned k) seed o) ≡ ok_run run = ok_if (is_last_epoch k) fault.EpochEnd (Ok (ended_with (turned k) seed o)) run e in
    (o, (λ f is. cc), cc)

pub rest_begins : (k : KeptState) (seed : List ℕ) (p : Option Pending) (run : Run) → p ≡ None → resumed k seed p ≡ Ok run → (o : Outcome) × IsGood o × (run.phase ≡ Ended o)
rest_begins k seed None run none e = (NothingPending, (λ f is. cc), cc)
rest_begins k seed (Some p) run none e = absurd (cc)

-- ---- refusals

abbrev refusal : Fault → Result Run Fault
refusal f = Err f

refused_or : (b : Bool) (g f : Fault) (r : Result Run Fault) → IsOfNoAsk (fault_end g) → (r ≡ refusal f → IsOfNoAsk (fault_end f)) → refused_if b g r ≡ refusal f → IsOfNoAsk (fault_end f)
refused_or true g f r none later e = let same : g ≡ f = cc in subst (λ (x : Fault). IsOfNoAsk (fault_end x)) same none
refused_or false g f r none later e = later e

begun_not : (run : Run) (f : Fault) → ok_run run ≡ refusal f → IsOfNoAsk (fault_end f)
begun_not run f e = absurd (cc)

unfinished_or : (k : KeptState) (p : Option Pending) (f : Fault) (r : Result Run Fault) → (r ≡ refusal f → IsOfNoAsk (fault_end f)) → if_finished k p r ≡ refusal f → IsOfNoAsk (fault_end f)
unfinished_or k (Some p) f r later e = let same : fault.Unfinished (id_of k p) ≡ f = cc in subst (λ (x : Fault). IsOfNoAsk (fault_end x)) same tt
unfinished_or k None f r later e = later e

serial_or : (k : KeptState) (f : Fault) (r : Result Run Fault) → (r ≡ refusal f → IsOfNoAsk (fault_end f)) → if_serial k r ≡ refusal f → IsOfNoAsk (fault_end f)
serial_or k f r later e = refused_or (is_last_serial k) fault.SerialEnd f r tt later e

resume_refused : (k : KeptState) (seed : List ℕ) (p : Option Pending) (f : Fault) → resumed k seed p ≡ refusal f → IsOfNoAsk (fault_end f)
resume_refused k seed None f e = begun_not _ f e
resume_refused k seed (Some p) f e = serial_or k f _ (begun_not _ f) e

-- a command is refused by a fault that comes of no ask
pub refused_no_ask : (k : KeptState) (seed : List ℕ) (c : Command) (f : Fault) → begun k seed c ≡ Err f → IsOfNoAsk (fault_end f)
refused_no_ask k seed (command.Post doc row) f e =
    let made : Result Run Fault = Ok (posting (ready k) seed doc row) in
    let unless_spent : Result Run Fault = refused_if (is_used_up k && is_last_epoch k) fault.EpochEnd made in
    unfinished_or k k.pending f (if_serial k unless_spent) (serial_or k f unless_spent (refused_or (is_used_up k && is_last_epoch k) fault.EpochEnd f made tt (begun_not (posting (ready k) seed doc row) f))) e
refused_no_ask k seed (command.Remove doc) f e =
    let made : Result Run Fault = Ok (removing k seed doc) in
    unfinished_or k k.pending f (if_serial k made) (serial_or k f made (begun_not (removing k seed doc) f)) e
refused_no_ask k seed (command.Search word) f e = serial_or k f _ (begun_not _ f) e
refused_no_ask k seed command.Resume f e = resume_refused k seed k.pending f e
refused_no_ask k seed command.Latest f e = serial_or k f _ (begun_not _ f) e
refused_no_ask k seed command.Rotate f e = refused_or (is_last_epoch k) fault.EpochEnd f _ tt (begun_not _ f) e
