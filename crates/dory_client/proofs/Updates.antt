-- An update that is done stands at one number in both histories.
use Rattle.std.proofs.Common.{◌≡◌, ℕ, ◌+◌, Bool, true, false, cond, List, [], ◌∷◌, Option, None, Some, Result, Ok, Err, refl, ap, sym, subst, inl, inr}
use Rattle.std.specs.Prelude.{◌⊎◌, ⊤, ◌==◌, ◌&&◌, nat_lt}
use Rattle.std.proofs.lemmas.Bool.{eqb-true, and_parts}
use Rattle.dory_base.specs.declared.entry.Entry.{Entry}
use Rattle.dory_base.specs.declared.ids.FolderId.{FolderId}
use Rattle.dory_base.specs.declared.refusal.Refusal.TheVariants as refusal
use Rattle.dory_base.proofs.SameLaws.{same_id-true}
use Rattle.dory_base.specs.declared.ids.Side.{Side}
use Rattle.dory_base.specs.declared.ids.Side.TheVariants as side
use Rattle.dory_base.specs.declared.ids.UpdateId.{UpdateId}
use Rattle.dory_wire.specs.declared.message.Request.{Request}
use Rattle.dory_wire.specs.declared.message.Want.TheVariants as want
use Rattle.dory_wire.specs.declared.message.What.{What}
use Rattle.dory_wire.specs.declared.message.What.TheVariants as what
use Rattle.dory_wire.specs.declared.message.What.TheVariants.{Committed}
use Rattle.dory_link.specs.Told.{Heard, Told, Grown, Grows}
use Rattle.dory_verify.specs.declared.fault.CheckFault.TheVariants as check
use Rattle.dory_base.specs.Log.{same_id}
use Rattle.dory_state.specs.declared.kept.KeptState.{KeptState}
use Rattle.dory_member.specs.declared.outcome.Fault.{Fault}
use Rattle.dory_member.specs.declared.outcome.Fault.TheVariants as fault
use Rattle.dory_member.specs.declared.outcome.Mark.{Mark}
use Rattle.dory_member.specs.declared.outcome.Outcome.{Outcome}
use Rattle.dory_member.specs.declared.outcome.Outcome.TheVariants.{Failed}
use Rattle.dory_member.specs.declared.phase.Phase.{Phase}
use Rattle.dory_member.specs.declared.phase.Phase.TheVariants.{Updating, Ended}
use Rattle.dory_member.specs.declared.phase.Run.{Run}
use Rattle.dory_member.specs.declared.phase.Single.TheVariants as single
use Rattle.dory_member.specs.declared.phase.UpdateStep.{UpdateStep}
use Rattle.dory_member.specs.declared.phase.UpdateStep.TheVariants.{StageFollow, StageLead, OrderLead, FollowOn, WhichOther, FollowOther}
use Rattle.dory_member.specs.Course.{after_fault, after_mark, after_refused, after_update, asks, ended_of, fails, finished, kept_at, name, outcome_at, phase_after, ask_request, run_after, side_of, single_of, to, took, updated, want_of}
use Rattle.dory_member.specs.Single.{confirmed, mark, said}
use Rattle.dory_member.proofs.ConfirmationLaws.{heard}
use Rattle.dory_client.specs.CallEffects.{HasAt, ToldAt}
use Rattle.dory_client.specs.Way.{RunExchanged, ExchangedInTurn}
use Rattle.dory_drive.specs.Way.{Links, ExchangedOver}
use Rattle.dory_drive.proofs.Growth.{grows_same, grows_twice, over_grew}
use Rattle.dory_client.proofs.Committed.{told_has, has_more}

-- the links told from the beginning a of a command to now z, the lead has the update of this id at this number
abbrev pub LeadHas : ℕ → Links → Links → ℕ → UpdateId → Type 0
LeadHas folder a z number id = ToldAt a.lead.folders z.lead.folders folder number id

abbrev pub FollowHas : ℕ → Links → Links → ℕ → UpdateId → Type 0
FollowHas folder a z number id = ToldAt a.follow.folders z.follow.folders folder number id

-- what is true of an update between its steps: from the lead's number on, the lead has it there
abbrev pub AtStep : ℕ → Links → Links → UpdateId → UpdateStep → Type 0
AtStep folder a z id (FollowOn number repaired) = LeadHas folder a z number id
AtStep folder a z id (WhichOther number at) = LeadHas folder a z number id
AtStep folder a z id (FollowOther number at other) = LeadHas folder a z number id
AtStep folder a z id _ = ⊤

-- what an outcome of the update of this entry says: it stands at a number in both histories, or it failed
pub data AtEnd (folder : ℕ) (a z : Links) (e : Entry) (o : Outcome) : Type 0 where
  Stands : (number : ℕ) → o ≡ updated e.change e.doc number → LeadHas folder a z number e.id → FollowHas folder a z number e.id → AtEnd folder a z e o
  Falls : (f : Fault) → o ≡ Failed f → AtEnd folder a z e o

-- what is true at a phase of an update of this entry
abbrev pub At : ℕ → Links → Links → Entry → Phase → Type 0
At folder a z e (Updating e' at) = (e' ≡ e) × AtStep folder a z e.id at
At folder a z e (Ended outcome) = AtEnd folder a z e outcome
At folder a z e _ = ⊥

-- ---- histories that grow

-- both links' folders are told on, grown
pub record Grow (a z : Links) : Type 0 where
  pub lead : Grows a.lead.folders z.lead.folders
  pub follow : Grows a.follow.folders z.follow.folders

grow_same : (a : Links) → Grow a a
grow_same a = record { lead = grows_same a.lead.folders; follow = grows_same a.follow.folders }

pub grow_twice : (a b c : Links) → Grow a b → Grow b c → Grow a c
grow_twice a b c p q = record {
  lead = grows_twice a.lead.folders b.lead.folders c.lead.folders p.lead q.lead;
  follow = grows_twice a.follow.folders b.follow.folders c.follow.folders p.follow q.follow;
}

pub heard_same : (x y : Heard) → y ≡ x → Grows x.folders y.folders
heard_same x y same = subst (λ (h : Heard). Grows x.folders h.folders) (sym same) (grows_same x.folders)

over_grows : (s : Side) (m z : Links) (r : Request) (frame : List ℕ) → ExchangedOver s m z r frame → Grow m z
over_grows s m z r frame over = record { lead = (over_grew side.Lead s m z r frame over).grown; follow = (over_grew side.Follow s m z r frame over).grown }

-- ---- what a told domain has, from an earlier beginning and to a later end

told_earlier : (a m z : Option (ℕ → Option Told)) (folder number : ℕ) (id : UpdateId) → Grows a m → ToldAt m z folder number id → ToldAt a z folder number id
told_earlier None m z folder number id g t = tt
told_earlier (Some a) None z folder number id g t = absurd g
told_earlier (Some a) (Some m) None folder number id g t = absurd t
told_earlier (Some a) (Some m) (Some z) folder number id g t = t

still_there : (x y : Option Told) (t : Told) (number : ℕ) (id : UpdateId) → x ≡ Some t → Grown x y → HasAt t.history number id → (u : Told) × (y ≡ Some u) × HasAt u.history number id
still_there None y t number id e g h = absurd (cc)
still_there (Some x) None t number id e g h = absurd g
still_there (Some x) (Some y) t number id e g h =
    let same : t ≡ x = cc in
    (y, refl, has_more x.history y.history number id g.history (subst (λ (v : Told). HasAt v.history number id) same h))

told_later : (a m z : Option (ℕ → Option Told)) (folder number : ℕ) (id : UpdateId) → Grows m z → ToldAt a m folder number id → ToldAt a z folder number id
told_later None m z folder number id g t = tt
told_later (Some a) None z folder number id g t = absurd t
told_later (Some a) (Some m) None folder number id g t = absurd g
told_later (Some a) (Some m) (Some z) folder number id g (t, is, h) = still_there (m folder) (z folder) t number id is (g folder) h

-- ---- what a reply that confirms says

abbrev ok_mark : Mark → Result Mark Fault
ok_mark m = Ok m

confirmed_if : (b : Bool) (s : Side) (w g m : Mark) → cond b (ok_mark g) (Err (fault.Unconfirmed s w g)) ≡ ok_mark m → (b ≡ true) × (g ≡ m)
confirmed_if true s w g m e = (refl, cc)
confirmed_if false s w g m e = absurd (cc)

order_says : (s : Side) (i : UpdateId) (w : What) (m : Mark) → said s (single.Order i) w ≡ Ok m → w ≡ Committed m.number i
order_says s i (what.Committed number id) m e =
    let p = confirmed_if ((number == number) && same_id i id) s (mark number i) (mark number id) m e in
    let same : i ≡ id = same_id-true i id (and_parts (number == number) (same_id i id) p.0).1 in
    let n : number ≡ m.number = ap (λ (x : Mark). x.number) p.1 in
    λ j. Committed (n j) (sym same j)
order_says s i _ m e = absurd (cc)

follow_says : (s : Side) (n : ℕ) (i : UpdateId) (w : What) (m : Mark) → said s (single.Follow n i) w ≡ Ok m → w ≡ Committed n i
follow_says s n i (what.Committed number id) m e =
    let p = confirmed_if ((n == number) && same_id i id) s (mark n i) (mark number id) m e in
    let both = and_parts (n == number) (same_id i id) p.0 in
    let same : i ≡ id = same_id-true i id both.1 in
    let k : n ≡ number = eqb-true n number both.0 in
    λ j. Committed (sym k j) (sym same j)
follow_says s n i _ m e = absurd (cc)

-- ---- where a fault of a first Follow leads

abbrev pub Leads : Entry → ℕ → Fault → Type 0
Leads e number f = ((at : ℕ) × (after_refused e number f ≡ Updating e (WhichOther number at))) ⊎ (after_refused e number f ≡ fails f)

gap_leads : (b : Bool) (e : Entry) (number at : ℕ) (f : Fault) → ((k : ℕ) × (cond b (Updating e (WhichOther number at)) (fails f) ≡ Updating e (WhichOther number k))) ⊎ (cond b (Updating e (WhichOther number at)) (fails f) ≡ fails f)
gap_leads true e number at f = inl (at, refl)
gap_leads false e number at f = inr refl

-- a first Follow's fault leads to the repair, or is the command's
pub leads : (e : Entry) (number : ℕ) (f : Fault) → Leads e number f
leads e number (fault.Check (check.Refused side.Follow (refusal.Gap l))) = gap_leads (nat_lt (l + 1) number) e number (l + 1) (fault.Check (check.Refused side.Follow (refusal.Gap l)))
leads e number _ = inr refl

refused_at : (folder : ℕ) (a z : Links) (e : Entry) (number : ℕ) (f : Fault) → LeadHas folder a z number e.id → At folder a z e (after_refused e number f)
refused_at folder a z e number f has = by (leads e number f)
  where
    by : Leads e number f → At folder a z e (after_refused e number f)
    by (inl (at, is)) = subst (At folder a z e) (sym is) (refl, has)
    by (inr is) = subst (At folder a z e) (sym is) (Falls f refl)

fault_at : (folder : ℕ) (a z : Links) (e : Entry) (at : UpdateStep) (f : Fault) → AtStep folder a z e.id at → At folder a z e (after_fault e at f)
fault_at folder a z e (FollowOn number false) f has = refused_at folder a z e number f has
fault_at folder a z e _ f has = Falls f refl

-- ---- one step of an update

repaired_at : (b : Bool) (folder : ℕ) (a z : Links) (e : Entry) (number at : ℕ) → LeadHas folder a z number e.id → At folder a z e (cond b (Updating e (WhichOther number (at + 1))) (Updating e (FollowOn number true)))
repaired_at true folder a z e number at has = (refl, has)
repaired_at false folder a z e number at has = (refl, has)

step_later : (folder : ℕ) (a m z : Links) (id : UpdateId) (at : UpdateStep) → Grow m z → AtStep folder a m id at → AtStep folder a z id at
step_later folder a m z id (FollowOn number repaired) g h = told_later a.lead.folders m.lead.folders z.lead.folders folder number id g.lead h
step_later folder a m z id (WhichOther number at) g h = told_later a.lead.folders m.lead.folders z.lead.folders folder number id g.lead h
step_later folder a m z id (FollowOther number at other) g h = told_later a.lead.folders m.lead.folders z.lead.folders folder number id g.lead h
step_later folder a m z id _ g h = tt

mark_at : (a m z : Links) (run : Run) (e : Entry) (at : UpdateStep) (frame : List ℕ) (k : Mark) → Grow a m → AtStep run.kept.folder.0 a m e.id at → ExchangedOver (side_of at) m z (ask_request run (to (side_of at) (want_of e (single_of e.id at)))) frame
    → confirmed (side_of at) (single_of e.id at) (name run run.step) frame ≡ Ok k → At run.kept.folder.0 a z e (after_mark e at k)
mark_at a m z run e StageFollow frame k g has over is = (refl, tt)
mark_at a m z run e StageLead frame k g has over is = (refl, tt)
mark_at a m z run e OrderLead frame k g has (ask, same) is =
    let h = heard side.Lead (single.Order e.id) (name run run.step) frame k is in
    let says : h.reply.what ≡ Committed k.number e.id = order_says side.Lead e.id h.reply.what k h.says in
    let r : Request = ask_request run (to side.Lead (want.Order e.id)) in
    let now : ToldAt m.lead.folders z.lead.folders run.kept.folder.0 k.number e.id = told_has m.lead.folders z.lead.folders r frame h.reply k.number e.id tt ask.replies h.came says in
    (refl, told_earlier a.lead.folders m.lead.folders z.lead.folders run.kept.folder.0 k.number e.id g.lead now)
mark_at a m z run e (FollowOn number repaired) frame k g has (same, ask) is =
    let h = heard side.Follow (single.Follow number e.id) (name run run.step) frame k is in
    let says : h.reply.what ≡ Committed number e.id = follow_says side.Follow number e.id h.reply.what k h.says in
    let r : Request = ask_request run (to side.Follow (want.Follow number e.id)) in
    let now : ToldAt m.follow.folders z.follow.folders run.kept.folder.0 number e.id = told_has m.follow.folders z.follow.folders r frame h.reply number e.id ask.in_range.want.0.some ask.replies h.came says in
    let grows : Grow m z = over_grows side.Follow m z r frame (same, ask) in
    Stands number refl (told_later a.lead.folders m.lead.folders z.lead.folders run.kept.folder.0 number e.id grows.lead has)
    (told_earlier a.follow.folders m.follow.folders z.follow.folders run.kept.folder.0 number e.id g.follow now)
mark_at a m z run e (WhichOther number at) frame k g has over is = (refl, step_later run.kept.folder.0 a m z e.id (WhichOther number at) (over_grows side.Lead m z _ frame over) has)
mark_at a m z run e (FollowOther number at id) frame k g has over is =
    repaired_at (nat_lt (at + 1) number) run.kept.folder.0 a z e number at (step_later run.kept.folder.0 a m z e.id (FollowOther number at id) (over_grows side.Follow m z _ frame over) has)

after_at : (a m z : Links) (run : Run) (e : Entry) (at : UpdateStep) (frame : List ℕ) (r : Result Mark Fault) → Grow a m → AtStep run.kept.folder.0 a m e.id at → ExchangedOver (side_of at) m z (ask_request run (to (side_of at) (want_of e (single_of e.id at)))) frame
    → confirmed (side_of at) (single_of e.id at) (name run run.step) frame ≡ r → At run.kept.folder.0 a z e (after_update e at r)
after_at a m z run e at frame (Ok k) g has over is = mark_at a m z run e at frame k g has over is
after_at a m z run e at frame (Err f) g has over is = fault_at run.kept.folder.0 a z e at f (step_later run.kept.folder.0 a m z e.id at (over_grows (side_of at) m z (ask_request run (to (side_of at) (want_of e (single_of e.id at)))) frame over) has)

-- ---- a whole update

ended_folder : (k : KeptState) (o : Outcome) → (finished k o).folder ≡ k.folder
ended_folder k (Failed f) = refl
ended_folder k _ = refl

pub kept_folder : (k : KeptState) (p : Phase) → (kept_at k p).folder ≡ k.folder
kept_folder k (Ended o) = ended_folder k o
kept_folder k _ = refl

-- from a phase of an update to its end
by_phase : (run : Run) (p : Phase) (frames : List (List ℕ)) (a m z : Links) (e : Entry) (o : Outcome) → run.phase ≡ p → Grow a m → At run.kept.folder.0 a m e p → ExchangedInTurn run frames m z → outcome_at (run_after run frames).phase ≡ Some o → AtEnd run.kept.folder.0 a z e o × Grow a z
by_phase run (Updating e' at) [] a m z e o is g h went ends = absurd (let none : outcome_at run.phase ≡ None = ap outcome_at is in cc)
by_phase run (Updating e' at) (f ∷ frames) a m z e o is g (same, has) (n, turned, more) ends =
    let over : ExchangedOver (side_of at) m n (ask_request run (to (side_of at) (want_of e' (single_of e'.id at)))) f = subst (λ (p : Phase). RunExchanged run (asks p) m n f) is turned in
    let grows : Grow m n = over_grows (side_of at) m n (ask_request run (to (side_of at) (want_of e' (single_of e'.id at)))) f over in
    let has' : AtStep run.kept.folder.0 a m e'.id at = subst (λ (x : Entry). AtStep run.kept.folder.0 a m x.id at) (sym same) has in
    let next : At run.kept.folder.0 a n e' (phase_after run (Updating e' at) f) = after_at a m n run e' at f (confirmed (side_of at) (single_of e'.id at) (name run run.step) f) g has' over refl in
    let next' : At run.kept.folder.0 a n e (phase_after run run.phase f) = subst (λ (x : Entry). At run.kept.folder.0 a n x (phase_after run run.phase f)) same (subst (λ (p : Phase). At run.kept.folder.0 a n e' (phase_after run p f)) (sym is) next) in
    let folder : (took run f).kept.folder ≡ run.kept.folder = kept_folder run.kept (phase_after run run.phase f) in
    let next'' : At (took run f).kept.folder.0 a n e (took run f).phase = subst (λ (x : FolderId). At x.0 a n e (phase_after run run.phase f)) (sym folder) next' in
    let rest = by_phase (took run f) (took run f).phase frames a n z e o refl (grow_twice a m n g grows) next'' more ends in
    (subst (λ (x : FolderId). AtEnd x.0 a z e o) folder rest.0, rest.1)
by_phase run (Ended x) [] a m z e o is g at went ends =
    let same : x ≡ o = let now : outcome_at run.phase ≡ Some x = ap outcome_at is in cc in
    (subst (λ (l : Links). AtEnd run.kept.folder.0 a l e o) (sym went) (subst (AtEnd run.kept.folder.0 a m e) same at), subst (Grow a) (sym went) g)
by_phase run (Ended x) (f ∷ frames) a m z e o is g at (n, turned, more) ends = absurd (subst (λ (p : Phase). RunExchanged run (asks p) m n f) is turned)
by_phase run _ frames a m z e o is g at went ends = absurd at

-- an update that ended stands at its number in both histories
pub update_ended : (run : Run) (e : Entry) (frames : List (List ℕ)) (a z : Links) (o : Outcome) → run.phase ≡ Updating e StageFollow → ExchangedInTurn run frames a z → ended_of run frames ≡ Some o → AtEnd run.kept.folder.0 a z e o × Grow a z
update_ended run e frames a z o is went ends = by_phase run (Updating e StageFollow) frames a a z e o is (grow_same a) (refl, tt) went ends
