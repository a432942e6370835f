-- What comes from a told domain confirms what was asked, or is a refusal; and so an update ends done, or by a refusal.
use Rattle.std.proofs.Common.{◌≡◌, ℕ, ◌≤◌, Bool, true, cond, List, Some, Result, Ok, Err, refl, ap, sym, ◌∙◌, subst, inl, inr, ◌+◌, false, [], ◌∷◌, None}
use Rattle.std.specs.Prelude.{⊤, ◌==◌, ◌&&◌, not, nat_lt}
use Rattle.std.proofs.lemmas.Bool.{eq-eqb}
use Rattle.dory_base.specs.declared.ids.AskId.{AskId}
use Rattle.dory_base.specs.declared.ids.Side.{Side}
use Rattle.dory_base.specs.declared.ids.Side.TheVariants as side
use Rattle.dory_base.specs.declared.ids.UpdateId.{UpdateId}
use Rattle.dory_base.specs.declared.plan.Plan.{Plan}
use Rattle.dory_base.specs.declared.plan.Plan.TheVariants.{Again, Fresh}
use Rattle.dory_base.specs.declared.plan.StagePlan.{StagePlan}
use Rattle.dory_base.specs.declared.plan.StagePlan.TheVariants.{New, Same, Done}
use Rattle.dory_base.specs.declared.refusal.Refusal.{Refusal}
use Rattle.dory_base.specs.declared.refusal.Refusal.TheVariants.{NoMemory}
use Rattle.dory_base.specs.Log.{Log, look_follow, look_order, look_stage, same_id, which}
use Rattle.dory_base.specs.Step.{State, log_of}
use Rattle.dory_base.proofs.LogLaws.{follow_seen}
use Rattle.dory_base.proofs.SameLaws.{same_id_refl}
use Rattle.dory_wire.specs.declared.message.Request.{Request}
use Rattle.dory_wire.specs.declared.message.Want.{Want}
use Rattle.dory_wire.specs.declared.message.Want.TheVariants as want
use Rattle.dory_wire.specs.declared.message.What.{What}
use Rattle.dory_wire.specs.declared.message.What.TheVariants.{Committed, Refused}
use Rattle.dory_wire.specs.Reading.{reply_in}
use Rattle.dory_wire.specs.Spelling.{IsWant}
use Rattle.dory_wire.specs.StepReply.{Steps, commit_answer, stage_answer, which_answer}
use Rattle.dory_link.specs.Told.{IsReplyTo, Heard, Told}
use Rattle.dory_verify.specs.Checks.{echo, form, is_allowed}
use Rattle.dory_verify.proofs.FormLaws.{bind_is, echo_is, form_is}
use Rattle.dory_member.specs.declared.outcome.Fault.{Fault}
use Rattle.dory_member.specs.declared.outcome.Fault.TheVariants as fault
use Rattle.dory_member.specs.declared.outcome.Mark.{Mark}
use Rattle.dory_member.specs.declared.phase.Single.{Single}
use Rattle.dory_member.specs.declared.phase.Single.TheVariants as single
use Rattle.dory_member.specs.declared.phase.UpdateStep.{UpdateStep}
use Rattle.dory_member.specs.declared.phase.UpdateStep.TheVariants.{StageFollow, StageLead, OrderLead, FollowOn, WhichOther, FollowOther}
use Rattle.dory_member.specs.declared.phase.Run.{Run}
use Rattle.dory_member.specs.Course.{name, ask_request, single_of, to, want_of, after_fault, after_mark, after_refused, after_update, asks, ended_of, outcome_at, phase_after, run_after, side_of, took, updated}
use Rattle.dory_member.specs.Single.{allowed, checked, confirmed, mark, refused, said, wanted}
use Rattle.dory_base.specs.declared.entry.Entry.{Entry}
use Rattle.dory_client.specs.Complete.{BothTell, TellsFolder}
use Rattle.dory_drive.specs.Way.{ExchangedOver, Links}
use Rattle.dory_client.proofs.Committed.{follower}
use Rattle.dory_client.proofs.Replied.{IsReplied, grown_told, replied_by}
use Rattle.dory_base.specs.declared.entry.Change.{Change}
use Rattle.dory_base.specs.declared.entry.Change.TheVariants as change
use Rattle.dory_base.specs.declared.ids.DocId.{DocId}
use Rattle.dory_base.specs.declared.ids.FolderId.{FolderId}
use Rattle.dory_base.specs.declared.refusal.Refusal.TheVariants as refusal
use Rattle.dory_verify.specs.declared.fault.CheckFault.TheVariants as check
use Rattle.dory_member.specs.declared.outcome.Outcome.{Outcome}
use Rattle.dory_member.specs.declared.outcome.Outcome.TheVariants.{Failed}
use Rattle.dory_member.specs.declared.phase.Phase.{Phase}
use Rattle.dory_member.specs.declared.phase.Phase.TheVariants.{Updating, Ended}
use Rattle.dory_client.specs.Ends.{fault_end}
use Rattle.dory_client.specs.CallEnds.{IsRefused, UpdateEnds}
use Rattle.dory_client.specs.Way.{RunExchanged, ExchangedInTurn}
use Rattle.dory_client.proofs.Updates.{Leads, kept_folder, leads}

-- ---- a reply whose kind is allowed is heard as what it says

heard_as : (s : Side) (ask : Single) (asked : AskId) (frame : List ℕ) (what : What) → reply_in frame ≡ Some (record { ask = asked; what = what }) → is_allowed (allowed ask) what ≡ true → confirmed s ask asked frame ≡ said s ask what
unfolding confirmed
heard_as s ask asked frame what e kind =
    bind_is (checked (form s (allowed ask) frame)) (record { ask = asked; what = what }) _ _ (ap checked (form_is s (allowed ask) frame (record { ask = asked; what = what }) e kind))
    (bind_is (checked (echo s asked (record { ask = asked; what = what }))) tt _ _ (ap checked (echo_is s asked what)) refl)

-- ---- what a told domain says

wanted_same : (s : Side) (m : Mark) → wanted s m m ≡ Ok m
wanted_same s m =
    let same : ((m.number == m.number) && same_id m.id m.id) ≡ true = (λ i. eq-eqb m.number m.number refl i && same_id_refl m.id i) in
    ap (λ (b : Bool). cond b (Ok m) (Err (fault.Unconfirmed s m m))) same

-- it confirms what was asked, or refuses
pub data Stated (s : Side) (ask : Single) (what : What) : Type 0 where
  Confirms : (m : Mark) → is_allowed (allowed ask) what ≡ true → said s ask what ≡ Ok m → Stated s ask what
  Refuses : (code : Refusal) → what ≡ Refused code → Stated s ask what

stages : (s : Side) (id : UpdateId) (r : Result StagePlan Refusal) → Stated s (single.Stage id) (stage_answer id r)
stages s id (Ok New) = Confirms (mark 0 id) refl (wanted_same s (mark 0 id))
stages s id (Ok Same) = Confirms (mark 0 id) refl (wanted_same s (mark 0 id))
stages s id (Ok (Done number)) = Confirms (mark number id) refl (wanted_same s (mark number id))
stages s id (Err code) = Refuses code refl

orders : (s : Side) (id : UpdateId) (r : Result Plan Refusal) → Stated s (single.Order id) (commit_answer id r)
orders s id (Ok (Fresh number)) = Confirms (mark number id) refl (wanted_same s (mark number id))
orders s id (Ok (Again number)) = Confirms (mark number id) refl (wanted_same s (mark number id))
orders s id (Err code) = Refuses code refl

follows_at : (s : Side) (number n : ℕ) (id : UpdateId) → number ≡ n → Stated s (single.Follow number id) (Committed n id)
follows_at s number n id same = subst (λ (k : ℕ). Stated s (single.Follow number id) (Committed k id)) same (Confirms (mark number id) refl (wanted_same s (mark number id)))

follows : (s : Side) (log : Log) (number : ℕ) (id : UpdateId) (r : Result Plan Refusal) → 1 ≤ number → look_follow log number id ≡ r → Stated s (single.Follow number id) (commit_answer id r)
follows s log number id (Ok (Fresh n)) some e = follows_at s number n id (follow_seen log number n id e).1
follows s log number id (Ok (Again n)) some e = follows_at s number n id (follower log.role log number n id some e).1
follows s log number id (Err code) some e = Refuses code refl

tells_which : (s : Side) (number : ℕ) (r : Result UpdateId Refusal) → Stated s (single.Which number) (which_answer number r)
tells_which s number (Ok id) = Confirms (mark number id) refl (wanted_same s (mark number id))
tells_which s number (Err code) = Refuses code refl

-- a number that is followed counts from 1
abbrev pub IsCounted : Want → Type 0
IsCounted (want.Follow number id) = 1 ≤ number
IsCounted _ = ⊤

says_as : (s : Side) (ask : Single) (what answer : What) → what ≡ answer → Stated s ask answer → Stated s ask what
says_as s ask what answer e says = subst (Stated s ask) (sym e) says

-- what a step of an update is answered
steps_say : (s : Side) (e : Entry) (at : UpdateStep) (st next : State) (what : What) → IsCounted (want_of e (single_of e.id at)) → Steps st (want_of e (single_of e.id at)) what next → Stated s (single_of e.id at) what
steps_say s e at st next what counted (inr out) = Refuses NoMemory out.answer
steps_say s e StageFollow st next what counted (inl step) = says_as s (single.Stage e.id) what _ step.answer (stages s e.id (look_stage (log_of st) e))
steps_say s e StageLead st next what counted (inl step) = says_as s (single.Stage e.id) what _ step.answer (stages s e.id (look_stage (log_of st) e))
steps_say s e OrderLead st next what counted (inl step) = says_as s (single.Order e.id) what _ step.answer (orders s e.id (look_order (log_of st) e.id))
steps_say s e (FollowOn number repaired) st next what counted (inl step) =
    says_as s (single.Follow number e.id) what _ step.answer (follows s (log_of st) number e.id (look_follow (log_of st) number e.id) counted refl)
steps_say s e (WhichOther number at) st next what counted (inl step) = says_as s (single.Which at) what _ step.answer (tells_which s at (which (log_of st) at))
steps_say s e (FollowOther number at id) st next what counted (inl step) =
    says_as s (single.Follow at id) what _ step.answer (follows s (log_of st) at id (look_follow (log_of st) at id) counted refl)

-- ---- over links that tell a folder

-- they go on to tell it
pub still : (s : Side) (folder : ℕ) (m z : Links) (r : Request) (frame : List ℕ) → BothTell folder m → ExchangedOver s m z r frame → BothTell folder z
still side.Lead folder m z r frame t (ask, same) =
    let x = grown_told m.lead.folders z.lead.folders folder t.lead t.by_lead ask.grown in
    record { lead = x.0; follow = t.follow; by_lead = x.1; by_follow = subst (λ (h : Heard). TellsFolder h.folders folder t.follow) (sym same) t.by_follow }
still side.Follow folder m z r frame t (same, ask) =
    let x = grown_told m.follow.folders z.follow.folders folder t.follow t.by_follow ask.grown in
    record { lead = t.lead; follow = x.0; by_lead = subst (λ (h : Heard). TellsFolder h.folders folder t.lead) (sym same) t.by_lead; by_follow = x.1 }

-- a reply to a request, and between which tellings of the folder it was given
pub record Replied (r : Request) (frame : List ℕ) : Type 0 where
  pub before : Told
  pub now : Told
  pub reply : IsReplied before now r frame
  pub counted : IsCounted r.want

counted_of : (w : Want) → IsWant w → IsCounted w
counted_of (want.Follow number id) is = is.0.some
counted_of _ is = tt

over_told : (s : Side) (m z : Links) (r : Request) (frame : List ℕ) → BothTell r.folder.0 m → ExchangedOver s m z r frame → Replied r frame
over_told side.Lead m z r frame t (ask, same) =
    let x = grown_told m.lead.folders z.lead.folders r.folder.0 t.lead t.by_lead ask.grown in
    record {
      before = t.lead;
      now = x.0;
      reply = replied_by m.lead.folders z.lead.folders t.lead x.0 r frame t.by_lead x.1 ask.replies;
      counted = counted_of r.want ask.in_range.want;
    }
over_told side.Follow m z r frame t (same, ask) =
    let x = grown_told m.follow.folders z.follow.folders r.folder.0 t.follow t.by_follow ask.grown in
    record {
      before = t.follow;
      now = x.0;
      reply = replied_by m.follow.folders z.follow.folders t.follow x.0 r frame t.by_follow x.1 ask.replies;
      counted = counted_of r.want ask.in_range.want;
    }

-- what came to a step of an update
says_at : (s : Side) (e : Entry) (at : UpdateStep) (x y : Told) (what : What) → IsCounted (want_of e (single_of e.id at)) → IsReplyTo x y (want_of e (single_of e.id at)) what → Stated s (single_of e.id at) what
says_at s e StageFollow x y what counted (st, next, is) = steps_say s e StageFollow st next what counted is.steps
says_at s e at x y what counted (st, next, is) = steps_say s e at st next what counted is.steps

-- ---- what a step of an update comes to

-- a mark, or the fault of a refusal
pub data CameAs (s : Side) (ask : Single) (r : Result Mark Fault) : Type 0 where
  ToMark : (m : Mark) → r ≡ Ok m → CameAs s ask r
  ToRefusal : (code : Refusal) → r ≡ Err (refused s ask code) → CameAs s ask r

allowed_refusal : (ask : Single) (code : Refusal) → is_allowed (allowed ask) (Refused code) ≡ true
allowed_refusal (single.Which number) code = refl
allowed_refusal _ code = refl

heard_by : (s : Side) (ask : Single) (asked : AskId) (frame : List ℕ) (what : What) → reply_in frame ≡ Some (record { ask = asked; what = what }) → Stated s ask what → CameAs s ask (confirmed s ask asked frame)
heard_by s ask asked frame what replied (Confirms m kind says) = ToMark m (heard_as s ask asked frame what replied kind ∙ says)
heard_by s ask asked frame what replied (Refuses code is) =
    let came : reply_in frame ≡ Some (record { ask = asked; what = Refused code }) = replied ∙ ap (λ (w : What). Some (record { ask = asked; what = w })) is in
    ToRefusal code (heard_as s ask asked frame (Refused code) came (allowed_refusal ask code))

-- what a told domain's reply to a step of an update comes to
pub confirms : (s : Side) (run : Run) (e : Entry) (at : UpdateStep) (m z : Links) (frame : List ℕ) → BothTell run.kept.folder.0 m → ExchangedOver s m z (ask_request run (to s (want_of e (single_of e.id at)))) frame
    → CameAs s (single_of e.id at) (confirmed s (single_of e.id at) (name run run.step) frame)
confirms s run e at m z frame t over =
    let r = over_told s m z (ask_request run (to s (want_of e (single_of e.id at)))) frame t over in
    heard_by s (single_of e.id at) (name run run.step) frame r.reply.what r.reply.replied (says_at s e at r.before r.now r.reply.what r.counted r.reply.answers)

-- an outcome that is no failure, or fails by a domain's refusal
abbrev pub IsFine : Outcome → Type 0
IsFine o = (f : Fault) → o ≡ Failed f → UpdateEnds (fault_end f)

fails_fine : (f : Fault) → UpdateEnds (fault_end f) → IsFine (Failed f)
fails_fine f fine g same = let one : f ≡ g = cc in subst (λ (x : Fault). UpdateEnds (fault_end x)) one fine

-- ---- an update, from its beginning to its end

-- a phase of an update that ends fine, where it ends
abbrev GoesWell : Entry → Phase → Type 0
GoesWell e (Updating e' at) = e' ≡ e
GoesWell e (Ended outcome) = IsFine outcome
GoesWell e _ = ⊥

taken_fine : (b : Bool) (s : Side) (n number : ℕ) (i id : UpdateId) → UpdateEnds (fault_end (cond b (fault.Diverged n i id) (fault.Check (check.Refused s (refusal.Taken number id)))))
taken_fine true s n number i id = inr (n, i, id, refl)
taken_fine false s n number i id = inl (IsRefused s (refusal.Taken number id) refl)

follow_fine : (s : Side) (n : ℕ) (i : UpdateId) (code : Refusal) → UpdateEnds (fault_end (refused s (single.Follow n i) code))
follow_fine s n i (refusal.Taken number id) = taken_fine ((n == number) && not (same_id i id)) s n number i id
follow_fine s n i code = inl (IsRefused s code refl)

-- a refusal's fault is a refusal
refused_fine : (s : Side) (ask : Single) (code : Refusal) → UpdateEnds (fault_end (refused s ask code))
refused_fine s (single.Follow n i) code = follow_fine s n i code
refused_fine s _ code = inl (IsRefused s code refl)

first_fine : (e : Entry) (number : ℕ) (f : Fault) → UpdateEnds (fault_end f) → GoesWell e (after_refused e number f)
first_fine e number f fine = by (leads e number f)
  where
    by : Leads e number f → GoesWell e (after_refused e number f)
    by (inl (at, is)) = subst (GoesWell e) (sym is) refl
    by (inr is) = subst (GoesWell e) (sym is) (fails_fine f fine)

fault_fine : (e : Entry) (at : UpdateStep) (f : Fault) → UpdateEnds (fault_end f) → GoesWell e (after_fault e at f)
fault_fine e (FollowOn number false) f fine = first_fine e number f fine
fault_fine e _ f fine = fails_fine f fine

updated_fine : (c : Change) (doc : DocId) (number : ℕ) → IsFine (updated c doc number)
updated_fine change.Remove doc number f is = absurd (cc)
updated_fine _ doc number f is = absurd (cc)

repaired_fine : (b : Bool) (e : Entry) (number at : ℕ) → GoesWell e (cond b (Updating e (WhichOther number (at + 1))) (Updating e (FollowOn number true)))
repaired_fine true e number at = refl
repaired_fine false e number at = refl

mark_fine : (e : Entry) (at : UpdateStep) (m : Mark) → GoesWell e (after_mark e at m)
mark_fine e (FollowOn number repaired) m = updated_fine e.change e.doc number
mark_fine e (FollowOther number at id) m = repaired_fine (nat_lt (at + 1) number) e number at
mark_fine e _ m = refl

after_fine : (e : Entry) (at : UpdateStep) (s : Side) (r : Result Mark Fault) → CameAs s (single_of e.id at) r → GoesWell e (after_update e at r)
after_fine e at s r (ToMark m is) = subst (λ (x : Result Mark Fault). GoesWell e (after_update e at x)) (sym is) (mark_fine e at m)
after_fine e at s r (ToRefusal code is) =
    subst (λ (x : Result Mark Fault). GoesWell e (after_update e at x)) (sym is) (fault_fine e at (refused s (single_of e.id at) code) (refused_fine s (single_of e.id at) code))

-- from a phase of an update to its end
from_phase : (run : Run) (p : Phase) (frames : List (List ℕ)) (m z : Links) (e : Entry) (o : Outcome) → run.phase ≡ p → BothTell run.kept.folder.0 m → GoesWell e p → ExchangedInTurn run frames m z → outcome_at (run_after run frames).phase ≡ Some o → IsFine o
from_phase run (Updating e' at) [] m z e o is told well went ends = absurd (let none : outcome_at run.phase ≡ None = ap outcome_at is in cc)
from_phase run (Updating e' at) (f ∷ frames) m z e o is told same (n, turned, more) ends =
    let over : ExchangedOver (side_of at) m n (ask_request run (to (side_of at) (want_of e' (single_of e'.id at)))) f = subst (λ (p : Phase). RunExchanged run (asks p) m n f) is turned in
    let now : BothTell run.kept.folder.0 n = still (side_of at) run.kept.folder.0 m n (ask_request run (to (side_of at) (want_of e' (single_of e'.id at)))) f told over in
    let next : GoesWell e' (phase_after run (Updating e' at) f) = after_fine e' at (side_of at) _ (confirms (side_of at) run e' at m n f told over) in
    let next' : GoesWell e (phase_after run run.phase f) = subst (λ (x : Entry). GoesWell x (phase_after run run.phase f)) same (subst (λ (p : Phase). GoesWell e' (phase_after run p f)) (sym is) next) in
    let folder : (took run f).kept.folder ≡ run.kept.folder = kept_folder run.kept (phase_after run run.phase f) in
    from_phase (took run f) (took run f).phase frames n z e o refl (subst (λ (x : FolderId). BothTell x.0 n) (sym folder) now) next' more ends
from_phase run (Ended x) [] m z e o is told well went ends =
    let same : x ≡ o = let now : outcome_at run.phase ≡ Some x = ap outcome_at is in cc in
    subst IsFine same well
from_phase run (Ended x) (f ∷ frames) m z e o is told well (n, turned, more) ends = absurd (subst (λ (p : Phase). RunExchanged run (asks p) m n f) is turned)
from_phase run _ frames m z e o is told well went ends = absurd well

-- an update over two links that tell its folder ends fine
pub update_fine : (run : Run) (e : Entry) (frames : List (List ℕ)) (a z : Links) (o : Outcome) → run.phase ≡ Updating e StageFollow → BothTell run.kept.folder.0 a → ExchangedInTurn run frames a z → ended_of run frames ≡ Some o → IsFine o
update_fine run e frames a z o is told went ends = from_phase run (Updating e StageFollow) frames a z e o is told refl went ends
