-- What a call ends with, by its line.
use Rattle.std.proofs.Common.{◌≡◌, ℕ, ◌≤◌, Bool, true, false, List, [], length, Option, None, Some, Result, Ok, Err, refl, ap, sym, ◌∙◌, subst, inl, inr, arith}
use Rattle.std.specs.Prelude.{◌⊎◌, ⊤, ◌&&◌}
use Rattle.std.specs.Io.KnownBytes.{Appends}
use Rattle.dory_base.specs.declared.ids.FolderId.{FolderId}
use Rattle.dory_base.specs.declared.ids.Side.{Side}
use Rattle.dory_base.specs.declared.ids.Side.TheVariants.{Lead, Follow}
use Rattle.dory_base.specs.declared.found.Found.{Found}
use Rattle.dory_base.specs.declared.refusal.Refusal.{Refusal}
use Rattle.dory_io.specs.Bytes.{Tells as TellsBytes}
use Rattle.dory_io.specs.Causes.{HasCause}
use Rattle.dory_link.specs.Told.{Told, Grows}
use Rattle.dory_verify.specs.declared.answer.Answer.{Answer}
use Rattle.dory_verify.specs.declared.fault.CheckFault.{CheckFault}
use Rattle.dory_verify.specs.declared.fault.CheckFault.TheVariants as check
use Rattle.dory_verify.specs.Listing.{Lists}
use Rattle.dory_cli.specs.declared.line.Line.{Line}
use Rattle.dory_cli.specs.declared.line.Line.TheVariants as line
use Rattle.dory_cli.specs.declared.fault.UsageFault.{UsageFault}
use Rattle.dory_state.specs.declared.kept.KeptState.{KeptState}
use Rattle.dory_state.specs.declared.kept.Pending.{Pending}
use Rattle.dory_state.specs.declared.fault.StateFault.{StateFault}
use Rattle.dory_state.specs.Reading.{state_of}
use Rattle.dory_state.specs.Spelling.{IsKeptState}
use Rattle.dory_member.specs.declared.command.Command.TheVariants as command
use Rattle.dory_member.specs.declared.outcome.Fault.{Fault}
use Rattle.dory_member.specs.declared.outcome.Fault.TheVariants as fault
use Rattle.dory_member.specs.declared.outcome.Outcome.{Outcome}
use Rattle.dory_member.specs.declared.outcome.Outcome.TheVariants.{Accepted, Failed}
use Rattle.dory_member.specs.declared.phase.Phase.TheVariants.{Ended}
use Rattle.dory_member.specs.declared.phase.Run.{Run}
use Rattle.dory_member.specs.Course.{asks, begun, ended_of, folder_keys, if_finished, lesser, outcome_at, refused_if, resumed}
use Rattle.dory_member.specs.Draw.{is_last_epoch, is_last_serial, is_used_up}
use Rattle.dory_drive.specs.declared.broken.Broken.{Broken}
use Rattle.dory_drive.specs.Driven.{AskFailed, ComesTo, Finished, FirstSaveFailed, LastSaveFailed, RanOut}
use Rattle.dory_drive.specs.Ends.{IsAskEnd, IsSaveEnd}
use Rattle.dory_drive.specs.Member.{member_course}
use Rattle.dory_drive.specs.Scene.{AskedNothing, Caused, Keeper, Link, Output, Scene}
use Rattle.dory_drive.specs.Way.{Links, scene_links}
use Rattle.dory_client.specs.declared.input.InputEnd.{InputEnd}
use Rattle.dory_client.specs.declared.input.InputEnd.TheVariants as input
use Rattle.dory_client.specs.declared.start.Todo.{Todo}
use Rattle.dory_client.specs.declared.start.Todo.TheVariants.{Post, Plain}
use Rattle.dory_client.specs.declared.start.Start.TheVariants.{Init, Act}
use Rattle.dory_client.specs.declared.end.ClientEnd.{ClientEnd}
use Rattle.dory_client.specs.declared.end.ClientEnd.TheVariants as ends
use Rattle.dory_client.specs.CallEffects.{IsBegun}
use Rattle.dory_client.specs.CallEnds.{AllWorked, AreFew, CallEnds, EndsDone, EndsWell, IsAnswered, IsDone, IsReadable, IsRefused, LineEnds, OutOfMemory, ResumeEnds, UpdateEnds, Worked}
use Rattle.dory_client.specs.Command.{HasNoText}
use Rattle.dory_client.specs.CommandEnds.{CommandEnds, BrokeOff, CommandFailed, CommandTold, IsGood, Wrote, WrotePart, Untold, outcome_line}
use Rattle.dory_client.specs.Complete.{AreAlike, AreFresh, AtVersion, BothTell, IsComplete, IsVersion, KeepsState, TellsFolder}
use Rattle.dory_client.specs.Ends.{FailedAt, IsKeeperEnd, broken_end, fault_end, input_end}
use Rattle.dory_client.specs.Input.{AreTooMany}
use Rattle.dory_client.specs.Run.{Refused, NoText, NoRoom, Began, IsRun, Loads, Unloaded, Loaded, Runs, Saved, Unsaved}
use Rattle.dory_client.specs.Scene.{Input, met}
use Rattle.dory_client.specs.Sought.{sought_columns, sought_of}
use Rattle.dory_client.specs.Start.{command_of, start_of}
use Rattle.dory_client.specs.Way.{ExchangedInTurn}
use Rattle.dory_client.proofs.Acting.{Acted, BeginsOrNot, Came, acted, begins_or_not, came, told_as}
use Rattle.dory_client.proofs.Beginnings.{IsBeginning, Kind, Updates, Searches, Measures, Rests, beginning, latest_begins, rest_begins, rotate_begins, search_begins}
use Rattle.dory_client.proofs.CameTo.{answered, search_failed, searched}
use Rattle.dory_client.proofs.Complete.{Answers, Judged, Refuses, lengths_good, lengths_told, search_judged}
use Rattle.dory_client.proofs.Course.{Failed as SearchFailed}
use Rattle.dory_client.proofs.EffectLaws.{goes_grow}
use Rattle.dory_client.proofs.Confirming.{update_fine}
use Rattle.dory_client.proofs.Replied.{grown_told, longer}
use Rattle.dory_client.proofs.Updates.{Grow}
use Rattle.dory_client.proofs.WayLaws.{lost_bad, lost_fails, no_frames, none_asked, stuck_asks, stuck_at}

-- ---- a command that nothing forbids isn't refused

-- a run that isn't refused
not_refused : (b : Bool) (f g : Fault) (r : Result Run Fault) → b ≡ false → (r ≡ Err g → ⊥) → refused_if b f r ≡ Err g → ⊥
not_refused true f g r e isnt is = absurd (cc)
not_refused false f g r e isnt is = isnt is

not_pending : (k : KeptState) (p : Option Pending) (g : Fault) (r : Result Run Fault) → p ≡ None → (r ≡ Err g → ⊥) → if_finished k p r ≡ Err g → ⊥
not_pending k (Some p) g r e isnt is = absurd (cc)
not_pending k None g r e isnt is = isnt is

abbrev ok_run : Run → Result Run Fault
ok_run r = Ok r

not_ok : (r : Run) (g : Fault) → ok_run r ≡ Err g → ⊥
not_ok r g e = cc

not_posting : (k : KeptState) (g : Fault) (r : Run) → k.pending ≡ None → is_last_serial k ≡ false → (is_used_up k && is_last_epoch k) ≡ false
    → if_finished k k.pending (refused_if (is_last_serial k) fault.SerialEnd (refused_if (is_used_up k && is_last_epoch k) fault.EpochEnd (Ok r))) ≡ Err g → ⊥
not_posting k g r none serial epoch =
    not_pending k k.pending g _ none (not_refused (is_last_serial k) fault.SerialEnd g _ serial (not_refused (is_used_up k && is_last_epoch k) fault.EpochEnd g (Ok r) epoch (not_ok r g)))

not_resumed : (k : KeptState) (seed : List ℕ) (p : Option Pending) (g : Fault) → is_last_serial k ≡ false → resumed k seed p ≡ Err g → ⊥
not_resumed k seed None g serial e = cc
not_resumed k seed (Some p) g serial e = not_refused (is_last_serial k) fault.SerialEnd g _ serial (not_ok _ g) e

-- ---- the way of a call in a told state

-- it reads its input
abbrev IsReading : Todo → Type 0
IsReading (Post doc) = ⊤
IsReading (Plain c) = ⊥

-- what stood in its way
data Hindrance (k : KeptState) (seed : List ℕ) (t : Todo) (end : ClientEnd) : Type 0 where
  AtKeeper : end ≡ ends.KeeperFault → Hindrance k seed t end
  AtOutput : end ≡ ends.OutputFault → Hindrance k seed t end
  AtLink : (side : Side) (text : List ℕ) (r : Run) → begun k seed (command_of k text t) ≡ Ok r → (asks r.phase ≡ None → ⊥) → end ≡ ends.LinkFault side → Hindrance k seed t end
  AtInput : IsReading t → end ≡ ends.InputFault → Hindrance k seed t end
  AtLength : IsReading t → end ≡ ends.InputLong → Hindrance k seed t end
  AtRefusal : (text : List ℕ) (f : Fault) → begun k seed (command_of k text t) ≡ Err f → end ≡ fault_end f → Hindrance k seed t end

-- a run of it that came to an outcome
record Reached (k : KeptState) (seed : List ℕ) (t : Todo) (a z : Scene) (o : Outcome) : Type 0 where
  pub text : List ℕ
  pub run : Run
  pub range : IsKeptState k
  pub begins : begun k seed (command_of k text t) ≡ Ok run
  pub by : Came run a z o

data Way (k : KeptState) (seed : List ℕ) (t : Todo) (a z : Scene) (end : ClientEnd) : Type 0 where
  Hindered : Hindrance k seed t end → Way k seed t a z end
  Forgets : end ≡ ends.NoMemory → Way k seed t a z end
  Fails : (f : Fault) → Reached k seed t a z (Failed f) → end ≡ fault_end f → Way k seed t a z end
  Does : (o : Outcome) → IsGood o → Reached k seed t a z o → Appends a.written z.written (outcome_line o) → end ≡ ends.Done → Way k seed t a z end

by_save : (k : KeptState) (seed : List ℕ) (t : Todo) (a z : Scene) (end : ClientEnd) (b : Broken) → end ≡ broken_end b → IsSaveEnd b → Way k seed t a z end
by_save k seed t a z end b e (inl is) = Hindered (AtKeeper (e ∙ ap broken_end is))
by_save k seed t a z end b e (inr is) = Forgets (e ∙ ap broken_end is)

by_ask : (k : KeptState) (seed : List ℕ) (t : Todo) (a z : Scene) (end : ClientEnd) (text : List ℕ) (r : Run) (b : Broken) (side : Side) → begun k seed (command_of k text t) ≡ Ok r → (asks r.phase ≡ None → ⊥) → end ≡ broken_end b → IsAskEnd side b → Way k seed t a z end
by_ask k seed t a z end text r b side begins asked e (inl is) = Hindered (AtLink side text r begins asked (e ∙ ap broken_end is))
by_ask k seed t a z end text r b side begins asked e (inr is) = Forgets (e ∙ ap broken_end is)

goes : (k : KeptState) (seed : List ℕ) (t : Todo) (a z : Scene) (end : ClientEnd) (text : List ℕ) (r : Run) → IsKeptState k → begun k seed (command_of k text t) ≡ Ok r → CommandEnds r a z end → Way k seed t a z end
goes k seed t a z end text r range begins (BrokeOff b (FirstSaveFailed asked kept is) w e) = by_save k seed t a z end b e is
goes k seed t a z end text r range begins (BrokeOff b (AskFailed broke kept) w e) =
    let at = stuck_at _ broke.between (scene_links z) b broke.stuck in
    by_ask k seed t a z end text r b at.0 begins (stuck_asks r (scene_links a) (scene_links z) b broke) e at.1
goes k seed t a z end text r range begins (BrokeOff b (LastSaveFailed frames went saving kept is) w e) = by_save k seed t a z end b e is
goes k seed t a z end text r range begins (CommandFailed f (RanOut earlier frame went lost kept) w e) =
    let failed : Failed f ≡ Failed fault.NoMemory = lost_fails (Failed f) lost in
    let same : f ≡ fault.NoMemory = cc in
    Forgets (e ∙ ap fault_end same)
goes k seed t a z end text r range begins (CommandFailed f (Finished frames went ended kept) w e) = Fails f (record { text = text; run = r; range = range; begins = begins; by = came r a z (Failed f) frames went ended kept }) e
goes k seed t a z end text r range begins (CommandTold o good (RanOut earlier frame went lost kept) says) = lost_bad o lost good
goes k seed t a z end text r range begins (CommandTold o good (Finished frames went ended kept) (Wrote w e)) = Does o good (record { text = text; run = r; range = range; begins = begins; by = came r a z o frames went ended kept }) w e
goes k seed t a z end text r range begins (CommandTold o good (Finished frames went ended kept) (WrotePart w e)) = Hindered (AtOutput e)
goes k seed t a z end text r range begins (CommandTold o good (Finished frames went ended kept) (Untold w e)) = Forgets e

no_text : (k : KeptState) (seed : List ℕ) (t : Todo) (i i' : Input) (a z : Scene) (end : ClientEnd) (e : InputEnd) → HasNoText k t i i' e → end ≡ input_end e → Way k seed t a z end
no_text k seed (Plain c) i i' a z end e has is = absurd has
no_text k seed (Post doc) i i' a z end input.Fault has is = Hindered (AtInput tt is)
no_text k seed (Post doc) i i' a z end input.Long has is = Hindered (AtLength tt is)
no_text k seed (Post doc) i i' a z end input.NoMemory has is = Forgets is

way : (k : KeptState) (seed : List ℕ) (t : Todo) (i i' : Input) (a z : Scene) (end : ClientEnd) → Acted k seed t i i' a z end → Way k seed t a z end
way k seed t i i' a z end (inl (inl e)) = Hindered (AtKeeper e)
way k seed t i i' a z end (inl (inr e)) = Forgets e
way k seed t i i' a z end (inr (range, Refused text f unread is u e)) = Hindered (AtRefusal text f is e)
way k seed t i i' a z end (inr (range, NoText e has u is)) = no_text k seed t i i' a z end e has is
way k seed t i i' a z end (inr (range, NoRoom text has u e)) = Forgets e
way k seed t i i' a z end (inr (range, Began text r has begins went)) = goes k seed t a z end text r range begins went

-- ---- where nothing stood in its way

few_not_many : (left : Option (List ℕ)) → AreFew left → AreTooMany left → ⊥
few_not_many None few many = few
few_not_many (Some bytes) few many = omega (arith, few, many)

-- each fault of a call came where its count rose, or its text is too long
pub record Causes (i i' : Input) (a z : Scene) (end : ClientEnd) : Type 0 where
  pub caused : Caused a.faults z.faults (FailedAt end)
  pub input : HasCause i.faults i'.faults (end ≡ ends.InputFault)
  pub long : end ≡ ends.InputLong → AreTooMany i.left

-- nothing hinders this
record IsFree (k : KeptState) (seed : List ℕ) (t : Todo) (i i' : Input) (a z : Scene) (end : ClientEnd) : Type 0 where
  pub keeper : Worked a z Keeper
  pub output : Worked a z Output
  pub links : (side : Side) (text : List ℕ) (r : Run) → begun k seed (command_of k text t) ≡ Ok r → (asks r.phase ≡ None → ⊥) → end ≡ ends.LinkFault side → ⊥
  pub readable : IsReading t → IsReadable i i'
  pub never : (text : List ℕ) (f : Fault) → begun k seed (command_of k text t) ≡ Err f → ⊥

free : (k : KeptState) (seed : List ℕ) (t : Todo) (i i' : Input) (a z : Scene) (end : ClientEnd) → Causes i i' a z end → IsFree k seed t i i' a z end → Hindrance k seed t end → ⊥
free k seed t i i' a z end c f (AtKeeper e) = f.keeper (c.caused.keeper.rose e)
free k seed t i i' a z end c f (AtOutput e) = f.output (c.caused.output.rose e)
free k seed t i i' a z end c f (AtLink side text r begins asked e) = f.links side text r begins asked e
free k seed t i i' a z end c f (AtInput reads e) = (f.readable reads).worked (c.input.rose e)
free k seed t i i' a z end c f (AtLength reads e) = few_not_many i.left (f.readable reads).short (c.long e)
free k seed t i i' a z end c f (AtRefusal text g is e) = f.never text g is

link_worked : (i i' : Input) (a z : Scene) (end : ClientEnd) → Causes i i' a z end → AllWorked a z → (side : Side) → end ≡ ends.LinkFault side → ⊥
link_worked i i' a z end c worked Lead e = worked (Link Lead) (c.caused.lead.rose e)
link_worked i i' a z end c worked Follow e = worked (Link Follow) (c.caused.follow.rose e)

all_free : (k : KeptState) (seed : List ℕ) (t : Todo) (i i' : Input) (a z : Scene) (end : ClientEnd) → Causes i i' a z end → AllWorked a z → (IsReading t → IsReadable i i') → ((text : List ℕ) (f : Fault) → begun k seed (command_of k text t) ≡ Err f → ⊥) → Hindrance k seed t end → ⊥
all_free k seed t i i' a z end c worked readable never = free k seed t i i' a z end c (record { keeper = worked Keeper; output = worked Output; links = λ side text r begins asked. link_worked i i' a z end c worked side; readable = readable; never = never })

-- ---- an update

rests_well : (r : Run) (x : Outcome) (f : Fault) (a z : Scene) → r.phase ≡ Ended x → IsGood x → Came r a z (Failed f) → ⊥
rests_well r x f a z is good c =
    let none : c.frames ≡ [] = no_frames r c.frames (scene_links a) (scene_links z) (ap asks is) c.went in
    let now : ended_of r c.frames ≡ Some x = ap (λ (fs : List (List ℕ)). ended_of r fs) none ∙ ap outcome_at is in
    let ended : ended_of r c.frames ≡ Some (Failed f) = c.ended in
    good f cc

update_ends : (k : KeptState) (seed : List ℕ) (t : Todo) (a z : Scene) (end : ClientEnd) → ((text word : List ℕ) → command_of k text t ≡ command.Search word → ⊥) → ((text : List ℕ) → command_of k text t ≡ command.Latest → ⊥) → BothTell k.folder.0 (scene_links a) → (Hindrance k seed t end → ⊥)
    → Way k seed t a z end → UpdateEnds end
update_ends k seed t a z end no_search no_latest told clear (Hindered h) = absurd (clear h)
update_ends k seed t a z end no_search no_latest told clear (Forgets e) = inl (OutOfMemory e)
update_ends k seed t a z end no_search no_latest told clear (Does o good r wrote e) = inl (IsDone e tt)
update_ends k seed t a z end no_search no_latest told clear (Fails f r e) = subst UpdateEnds (sym e) (by b.kind)
  where
    b : IsBeginning k seed (command_of k r.text t) r.run
    b = beginning k seed (command_of k r.text t) r.run r.begins

    by : Kind k seed (command_of k r.text t) r.run → UpdateEnds (fault_end f)
    by (Updates entry is) = update_fine r.run entry r.by.frames (scene_links a) (scene_links z) (Failed f) is (subst (λ (x : FolderId). BothTell x.0 (scene_links a)) (sym b.folder) told) r.by.went r.by.ended f refl
    by (Searches word named is) = absurd (no_search r.text word named)
    by (Measures named is) = absurd (no_latest r.text named)
    by (Rests x good is) = absurd (rests_well r.run x f a z is good r.by)

-- ---- a command that asks nothing

-- what its run is at its end from the beginning
abbrev IsAtRest : Run → Type 0
IsAtRest r = (o : Outcome) × IsGood o × (r.phase ≡ Ended o)

rest_ends : (k : KeptState) (seed : List ℕ) (t : Todo) (i i' : Input) (a z : Scene) (end : ClientEnd) → Causes i i' a z end → Worked a z Keeper → Worked a z Output → (IsReading t → ⊥) → ((text : List ℕ) (f : Fault) → begun k seed (command_of k text t) ≡ Err f → ⊥)
    → ((text : List ℕ) (r : Run) → begun k seed (command_of k text t) ≡ Ok r → IsAtRest r) → Way k seed t a z end → EndsDone end
rest_ends k seed t i i' a z end c keeper output unread never rests (Hindered h) =
    absurd (free k seed t i i' a z end c (record { keeper = keeper; output = output; links = λ side text r begins asked e. asked (ap asks (rests text r begins).2); readable = λ reads. absurd (unread reads); never = never }) h)
rest_ends k seed t i i' a z end c keeper output unread never rests (Forgets e) = inr e
rest_ends k seed t i i' a z end c keeper output unread never rests (Does o good r wrote e) = inl e
rest_ends k seed t i i' a z end c keeper output unread never rests (Fails f r e) =
    let rest = rests r.text r.run r.begins in
    absurd (rests_well r.run rest.0 f a z rest.2 rest.1 r.by)

none_comes : (r : Run) (a z : Scene) (o : Outcome) → asks r.phase ≡ None → ComesTo member_course r a z o → AskedNothing a z
none_comes r a z o none (RanOut earlier frame went lost kept) = none_asked r _ a z none went
none_comes r a z o none (Finished frames went ended kept) = none_asked r frames a z none went

none_goes : (r : Run) (a z : Scene) (end : ClientEnd) → asks r.phase ≡ None → CommandEnds r a z end → AskedNothing a z
none_goes r a z end none (BrokeOff b (FirstSaveFailed asked kept is) w e) = asked
none_goes r a z end none (BrokeOff b (AskFailed broke kept) w e) = absurd (stuck_asks r (scene_links a) (scene_links z) b broke none)
none_goes r a z end none (BrokeOff b (LastSaveFailed frames went saving kept is) w e) = none_asked r frames a z none went
none_goes r a z end none (CommandFailed f comes w e) = none_comes r a z (Failed f) none comes
none_goes r a z end none (CommandTold o good comes says) = none_comes r a z o none comes

rest_asks : (t : Todo) (seed : List ℕ) (i i' : Input) (a z : Scene) (end : ClientEnd) → ((k : KeptState) (r : Run) → IsBegun t seed (met i a) (met i' z) k r → IsAtRest r) → BeginsOrNot t seed i i' a z end → AskedNothing a z
rest_asks t seed i i' a z end rests (inl (u, quiet)) = u.asked
rest_asks t seed i i' a z end rests (inr (k, r, b, went)) = none_goes r a z end (ap asks (rests k r b).2) went

abbrev ok_state : KeptState → Result KeptState StateFault
ok_state k = Ok k

-- the state that a command began in is the one that is told as kept
one_state : (t : Todo) (seed : List ℕ) (i i' : Input) (a z : Scene) (k l : KeptState) (r : Run) → KeepsState a.kept k → IsBegun t seed (met i a) (met i' z) l r → k ≡ l
one_state t seed i i' a z k l r keeps b =
    let told = told_as a.kept k (Some b.bytes) keeps b.is_kept in
    let same : b.bytes ≡ told.0 = let e : Some b.bytes ≡ Some told.0 = told.1 in cc in
    let both : ok_state k ≡ ok_state l = sym told.2 ∙ ap state_of (sym same) ∙ b.is_state in
    cc

-- ---- the two lengths

latest_ends : (k : KeptState) (seed : List ℕ) (a z : Scene) (end : ClientEnd) (t : BothTell k.folder.0 (scene_links a)) → AreFresh k.seen t.lead t.follow → (Hindrance k seed (Plain command.Latest) end → ⊥) → Way k seed (Plain command.Latest) a z end → EndsDone end
latest_ends k seed a z end t fresh clear (Hindered h) = absurd (clear h)
latest_ends k seed a z end t fresh clear (Forgets e) = inr e
latest_ends k seed a z end t fresh clear (Does o good r wrote e) = inl e
latest_ends k seed a z end t fresh clear (Fails f r e) =
    let is = latest_begins k seed r.run r.begins in
    absurd (lengths_good k seed r.by.frames (scene_links a) (scene_links z) (Failed f) t fresh (subst (λ (x : Run). ExchangedInTurn x r.by.frames (scene_links a) (scene_links z)) is r.by.went) (subst (λ (x : Run). ended_of x r.by.frames ≡ Some (Failed f)) is r.by.ended) f refl)

-- ---- a search

one_told : (folders : Option (ℕ → Option Told)) (n : ℕ) (x y : Told) → TellsFolder folders n x → TellsFolder folders n y → x ≡ y
one_told None n x y p q = absurd p
one_told (Some folders) n x y p q = cc

told_longer : (before now : Option (ℕ → Option Told)) (n : ℕ) (x y : Told) → TellsFolder before n x → TellsFolder now n y → Grows before now → length x.history ≤ length y.history
told_longer before now n x y p q g =
    let w = grown_told before now n x p g in
    subst (λ (v : Told). length x.history ≤ length v.history) (one_told now n w.0 y w.1 q) (longer x.history w.0.history w.2.history)

-- a version that might have been asked for, where none was
some_version : (folder : ℕ) (a z : Links) (t : BothTell folder a) (u : BothTell folder z) → Grow a z → IsVersion t.lead u.lead t.follow u.follow (lesser (length t.lead.history) (length t.follow.history))
some_version folder a z t u g = record {
  lengths = (length t.lead.history, length t.follow.history);
  of_lead = record { least = omega arith; most = told_longer a.lead.folders z.lead.folders folder t.lead u.lead t.by_lead u.by_lead g.lead };
  of_follow = record { least = omega arith; most = told_longer a.follow.folders z.follow.folders folder t.follow u.follow t.by_follow u.by_follow g.follow };
  smaller = refl;
}

abbrev ok_found : Found × Found → Result (Found × Found) CheckFault
ok_found both = Ok both

judged_fault : (k : KeptState) (word : List ℕ) (version : ℕ) (told : Told) (a z : Scene) (end : ClientEnd) (c : CheckFault) → end ≡ ends.Check c → Judged k word version told (Err c) → EndsWell (IsAnswered k word version told a z) end
judged_fault k word version told a z end c e (Refuses side code is) = let same : c ≡ check.Refused side code = cc in IsRefused side code (e ∙ ap (λ (x : CheckFault). ends.Check x) same)
judged_fault k word version told a z end c e (Answers both is lists) = absurd (cc)

judged_answer : (k : KeptState) (word : List ℕ) (version : ℕ) (told : Told) (a z : Scene) (end : ClientEnd) (both : Found × Found) (answer : Answer) → end ≡ ends.Done → Lists (folder_keys k) (sought_columns k word) version both.0 both.1 answer → Appends a.written z.written (outcome_line (Accepted answer))
    → Judged k word version told (ok_found both) → EndsWell (IsAnswered k word version told a z) end
judged_answer k word version told a z end both answer e lists wrote (Refuses side code is) = absurd (cc)
judged_answer k word version told a z end both answer e lists wrote (Answers found is right) =
    let same : both ≡ found = let eq : ok_found both ≡ ok_found found = is in cc in
    IsDone e (record { answer = answer; named = lists.named; lists = right answer (subst (λ (x : Found × Found). Lists (folder_keys k) (sought_columns k word) version x.0 x.1 answer) same lists); written = wrote })

-- what stood in a search's way, or how it ends
abbrev SearchedSo : KeptState → List ℕ → List ℕ → Scene → Scene → ClientEnd → ℕ → Told → Type 0
SearchedSo k seed word a z end version told = Hindrance k seed (Plain (command.Search word)) end ⊎ EndsWell (IsAnswered k word version told a z) end

search_ends : (k : KeptState) (seed word : List ℕ) (a z : Scene) (end : ClientEnd) → Grow (scene_links a) (scene_links z) → Way k seed (Plain (command.Search word)) a z end → AtVersion k a z (SearchedSo k seed word a z end)
search_ends k seed word a z end grow went t u fresh = by went
  where
    Found_at : Type 0
    Found_at = (version : ℕ) × IsVersion t.lead u.lead t.follow u.follow version × (AreAlike k u.lead u.follow version → SearchedSo k seed word a z end version u.lead)

    failed : (c : CheckFault) → end ≡ ends.Check c → IsKeptState k → SearchFailed a.lead z.lead a.follow z.follow k (sought_of k seed word) c → Found_at
    failed c e range (inl lengths) = absurd (let n = lengths_told k (scene_links a) (scene_links z) (Err c) t u fresh lengths in let not : Err c ≡ Ok n.0 = n.1 in cc)
    failed c e range (inr (version, s)) =
        let j = search_judged k seed word (scene_links a) (scene_links z) version (Err c) t u range fresh s in
        (version, j.0, λ alike. inr (judged_fault k word version u.lead a z end c e (j.1 alike)))

    by : Way k seed (Plain (command.Search word)) a z end → Found_at
    by (Hindered h) = (_, some_version k.folder.0 (scene_links a) (scene_links z) t u grow, λ alike. inl h)
    by (Forgets e) = (_, some_version k.folder.0 (scene_links a) (scene_links z) t u grow, λ alike. inr (OutOfMemory e))
    by (Fails f r e) =
        let so = searched k seed word r.run r.by.frames (scene_links a) (scene_links z) (Failed f) (search_begins k seed word r.run r.begins) r.by.went r.by.ended in
        let c = search_failed k seed word (scene_links a) (scene_links z) f so in
        failed c.0 (e ∙ ap fault_end c.1) r.range c.2
    by (Does o good r wrote e) =
        let so = searched k seed word r.run r.by.frames (scene_links a) (scene_links z) o (search_begins k seed word r.run r.begins) r.by.went r.by.ended in
        let got = answered k seed word (scene_links a) (scene_links z) o so good in
        let j = search_judged k seed word (scene_links a) (scene_links z) got.2.1 (Ok got.2.0) t u r.range fresh got.2.2 in
        (got.2.1, j.0, λ alike. inr (judged_answer k word got.2.1 u.lead a z end got.2.0 got.0 e got.2.3 (subst (λ (x : Outcome). Appends a.written z.written (outcome_line x)) got.1 wrote) (j.1 alike)))

unhindered : {A B : Type 0} → (A → ⊥) → A ⊎ B → B
unhindered clear (inl h) = absurd (clear h)
unhindered clear (inr so) = so

serial_only : (b : Bool) (r : Run) (f : Fault) → refused_if b fault.SerialEnd (Ok r) ≡ Err f → f ≡ fault.SerialEnd
serial_only true r f e = cc
serial_only false r f e = absurd (cc)

only_refused : (k : KeptState) (seed word : List ℕ) (says : Type 0) (end : ClientEnd) (f : CheckFault) → end ≡ ends.Check f → Hindrance k seed (Plain (command.Search word)) end ⊎ EndsWell says end → (side : Side) × (code : Refusal) × (f ≡ check.Refused side code)
only_refused k seed word says end f e (inl (AtKeeper i)) = absurd (cc)
only_refused k seed word says end f e (inl (AtOutput i)) = absurd (cc)
only_refused k seed word says end f e (inl (AtLink side text r begins asked i)) = absurd (cc)
only_refused k seed word says end f e (inl (AtInput reads i)) = absurd reads
only_refused k seed word says end f e (inl (AtLength reads i)) = absurd reads
only_refused k seed word says end f e (inl (AtRefusal text g is i)) =
    let last : g ≡ fault.SerialEnd = serial_only (is_last_serial k) _ g is in
    let serial : end ≡ ends.SerialEnd = i ∙ ap fault_end last in
    absurd (cc)
only_refused k seed word says end f e (inr (IsDone i so)) = absurd (cc)
only_refused k seed word says end f e (inr (IsRefused side code i)) = (side, code, let both : ends.Check f ≡ ends.Check (check.Refused side code) = sym e ∙ i in cc)
only_refused k seed word says end f e (inr (OutOfMemory i)) = absurd (cc)

-- over two links that tell alike, a failed check of a search is a refusal
pub complete : (words : List (List ℕ)) (seed : List ℕ) (i i' : Input) (a z : Scene) (end : ClientEnd) → IsRun words seed (met i a) (met i' z) end → IsComplete words a z end
complete words seed i i' a z end ran word is k keeps t u fresh =
    let loads : Loads (Act (Plain (command.Search word))) seed (met i a) (met i' z) end = subst (λ (r : Result Line UsageFault). Runs r seed (met i a) (met i' z) end) is ran in
    let so = search_ends k seed word a z end (goes_grow (Plain (command.Search word)) seed i i' a z end (begins_or_not (Plain (command.Search word)) seed i i' a z end loads)) (way k seed (Plain (command.Search word)) i i' a z end (acted k seed (Plain (command.Search word)) i i' a z end keeps loads)) t u fresh in
    (so.0, so.1, λ alike f e. only_refused k seed word (IsAnswered k word so.0 u.lead a z) end f e (so.2 alike))

-- ---- a first state

first_ends : (first : KeptState) (seed : List ℕ) (i i' : Input) (a z : Scene) (end : ClientEnd) → Causes i i' a z end → Loads (Init first) seed (met i a) (met i' z) end → a.kept ≡ Some None → Worked a z Keeper → Worked a z Output → EndsDone end
first_ends first seed i i' a z end c loads none keeper output = by loads
  where
    save : IsKeeperEnd end → EndsDone end
    save (inl e) = absurd (keeper (c.caused.keeper.rose e))
    save (inr e) = inr e

    something : (bytes : List ℕ) → a.kept ≡ Some None → TellsBytes a.kept (Some bytes) → ⊥
    something bytes e told = let none : None ≡ Some bytes = subst (λ (x : Option (Option (List ℕ))). TellsBytes x (Some bytes)) e told in cc

    by : Loads (Init first) seed (met i a) (met i' z) end → EndsDone end
    by (Unloaded quiet is) = save is
    by (Loaded (Some bytes) told s) = absurd (something bytes none told)
    by (Loaded None told (unread, asked, Unsaved kept stays is)) = save is
    by (Loaded None told (unread, asked, Saved kept (Wrote w e))) = inl e
    by (Loaded None told (unread, asked, Saved kept (WrotePart w e))) = absurd (output (c.caused.output.rose e))
    by (Loaded None told (unread, asked, Saved kept (Untold w e))) = inr e

-- ---- any line

resume_ends : (k : KeptState) (p : Option Pending) (seed : List ℕ) (i i' : Input) (a z : Scene) (end : ClientEnd) → Causes i i' a z end → k.pending ≡ p → KeepsState a.kept k → Loads (Act (Plain command.Resume)) seed (met i a) (met i' z) end → ResumeEnds p k a z end
resume_ends k None seed i i' a z end c none keeps loads =
    let t : Todo = Plain command.Resume in (
      rest_asks t seed i i' a z end (λ l r b. rest_begins l seed l.pending r (ap (λ (x : KeptState). x.pending) (sym (one_state t seed i i' a z k l r keeps b)) ∙ none) b.begins) (begins_or_not t seed i i' a z end loads),
      λ keeper output. rest_ends k seed t i i' a z end c keeper output (λ reads. reads) (λ text f is. let e : resumed k seed None ≡ Err f = ap (resumed k seed) (sym none) ∙ is in cc) (λ text r. rest_begins k seed k.pending r none)
          (way k seed t i i' a z end (acted k seed t i i' a z end keeps loads)),
    )
resume_ends k (Some p) seed i i' a z end c is keeps loads = λ worked serial told.
    let t : Todo = Plain command.Resume in
    update_ends k seed t a z end (λ text word e. cc) (λ text e. cc) told (all_free k seed t i i' a z end c worked (λ reads. absurd reads) (λ text f. not_resumed k seed k.pending f serial)) (way k seed t i i' a z end (acted k seed t i i' a z end keeps loads))

line_ends : (l : Line) (seed : List ℕ) (i i' : Input) (a z : Scene) (end : ClientEnd) → Causes i i' a z end → Loads (start_of l) seed (met i a) (met i' z) end → LineEnds l (met i a) (met i' z) end
line_ends (line.Init folder member shape master serial) seed i i' a z end c loads = first_ends _ seed i i' a z end c loads
line_ends (line.Post doc) seed i i' a z end c loads = λ k keeps may epoch readable worked told.
    update_ends k seed (Post doc) a z end (λ text word e. cc) (λ text e. cc) told (all_free k seed (Post doc) i i' a z end c worked (λ reads. readable) (λ text f. not_posting k f _ may.finished may.serial epoch)) (way k seed (Post doc) i i' a z end (acted k seed (Post doc) i i' a z end keeps loads))
line_ends (line.Remove doc) seed i i' a z end c loads = λ k keeps may worked told.
    let t : Todo = Plain (command.Remove doc) in
    update_ends k seed t a z end (λ text word e. cc) (λ text e. cc) told
    (all_free k seed t i i' a z end c worked (λ reads. absurd reads) (λ text f. not_pending k k.pending f _ may.finished (not_refused (is_last_serial k) fault.SerialEnd f _ may.serial (not_ok _ f)))) (way k seed t i i' a z end (acted k seed t i i' a z end keeps loads))
line_ends (line.Search word) seed i i' a z end c loads = λ k keeps serial worked t u fresh.
    let todo : Todo = Plain (command.Search word) in
    let so = search_ends k seed word a z end (goes_grow todo seed i i' a z end (begins_or_not todo seed i i' a z end loads)) (way k seed todo i i' a z end (acted k seed todo i i' a z end keeps loads)) t u fresh in
    (so.0, so.1, λ alike. unhindered (all_free k seed todo i i' a z end c worked (λ reads. absurd reads) (λ text f. not_refused (is_last_serial k) fault.SerialEnd f _ serial (not_ok _ f))) (so.2 alike))
line_ends line.Resume seed i i' a z end c loads = λ k keeps. resume_ends k k.pending seed i i' a z end c refl keeps loads
line_ends line.Latest seed i i' a z end c loads = λ k keeps serial worked t fresh.
    let todo : Todo = Plain command.Latest in
    latest_ends k seed a z end t fresh (all_free k seed todo i i' a z end c worked (λ reads. absurd reads) (λ text f. not_refused (is_last_serial k) fault.SerialEnd f _ serial (not_ok _ f))) (way k seed todo i i' a z end (acted k seed todo i i' a z end keeps loads))
line_ends line.Rotate seed i i' a z end c loads =
    let t : Todo = Plain command.Rotate in (
      rest_asks t seed i i' a z end (λ l r b. rotate_begins l seed r b.begins) (begins_or_not t seed i i' a z end loads),
      λ k keeps epoch keeper output. rest_ends k seed t i i' a z end c keeper output (λ reads. reads) (λ text f. not_refused (is_last_epoch k) fault.EpochEnd f _ epoch (not_ok _ f)) (λ text r. rotate_begins k seed r)
          (way k seed t i i' a z end (acted k seed t i i' a z end keeps loads)),
    )

-- what a call ends with
pub ends_so : (words : List (List ℕ)) (seed : List ℕ) (i i' : Input) (a z : Scene) (end : ClientEnd) → Causes i i' a z end → IsRun words seed (met i a) (met i' z) end → CallEnds words (met i a) (met i' z) end
ends_so words seed i i' a z end c ran l is = line_ends l seed i i' a z end c (subst (λ (r : Result Line UsageFault). Runs r seed (met i a) (met i' z) end) is ran)
