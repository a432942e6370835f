-- What a told domain has after it confirmed an update.
use Rattle.std.proofs.Common.{◌≡◌, ℕ, zero, suc, ◌+◌, ◌-◌, ◌≤◌, ◌<◌, Bool, true, false, cond, List, [], ◌∷◌, ◌++◌, length, get_or, Option, None, Some, Result, Ok, Err, refl, ap, sym, ◌∙◌, subst, inl, inr, arith}
use Rattle.std.specs.Prelude.{slice_get, nat_lt}
use Rattle.std.proofs.lemmas.List.{map-append}
use Rattle.std.proofs.lemmas.Option.{slice_get-get_or}
use Rattle.dory_base.specs.Log.{Log, same_id, number_of, staged_as, order_staged, order_known, order_as, look_order, follow_staged, follow_known, follow_again, follow_as, look_follow}
use Rattle.dory_base.specs.declared.ids.AskId.{AskId}
use Rattle.dory_base.specs.declared.ids.Side.{Side}
use Rattle.dory_base.specs.declared.ids.Side.TheVariants as side
use Rattle.dory_base.specs.declared.refusal.Refusal.TheVariants.{Gap, HistoryFull, NoMemory, Taken}
use Rattle.dory_wire.specs.declared.message.Want.{Want}
use Rattle.dory_wire.specs.declared.message.Want.TheVariants.{Order, Follow}
use Rattle.dory_wire.specs.declared.message.What.{What}
use Rattle.dory_wire.specs.declared.message.What.TheVariants.{Committed, Refused}
use Rattle.dory_wire.specs.declared.message.Request.{Request}
use Rattle.dory_wire.specs.declared.message.Reply.{Reply}
use Rattle.dory_wire.specs.Reading.{reply_in}
use Rattle.dory_wire.specs.StepReply.{Steps, commit_answer}
use Rattle.dory_link.specs.Told.{Told, IsReplyTo, IsFolderReply, StepsOnce}
use Rattle.dory_drive.specs.Asked.{HasReply}
use Rattle.std.specs.Prelude.{⊤}
use Rattle.std.proofs.lemmas.Bool.{ltb-false}
use Rattle.dory_base.specs.Step.{State, ids_of, log_of, after_maybe, event_of_plan, state_appended}
use Rattle.dory_base.specs.History.{IsPrefix}
use Rattle.dory_base.specs.declared.entry.Entry.{Entry}
use Rattle.dory_base.specs.declared.ids.UpdateId.{UpdateId}
use Rattle.dory_base.specs.declared.plan.Plan.{Plan}
use Rattle.dory_base.specs.declared.plan.Plan.TheVariants.{Again, Fresh}
use Rattle.dory_base.specs.declared.refusal.Refusal.{Refusal}
use Rattle.dory_base.proofs.IdLaws.{number_there}
use Rattle.dory_base.proofs.LogLaws.{IsFresh, order_seen, follow_seen, with_id_some}
use Rattle.dory_base.proofs.SameLaws.{same_id-true}
use Rattle.dory_base.proofs.StepLaws.{ids_snoc}
use Rattle.dory_client.specs.CallEffects.{HasAt, ToldAt}

-- what stands at a place stands there in a longer list
get_more : {A : Type 0} (xs ys : List A) (i : ℕ) (x : A) → slice_get xs i ≡ Some x → slice_get (xs ++ ys) i ≡ Some x
get_more [] ys i x e = absurd (cc)
get_more (y ∷ xs) ys zero x e = e
get_more (y ∷ xs) ys (suc i) x e = get_more xs ys i x e

get_last : {A : Type 0} (xs : List A) (x : A) → slice_get (xs ++ x ∷ []) (length xs) ≡ Some x
get_last [] x = refl
get_last (y ∷ xs) x = get_last xs x

-- an update stays at its number
pub has_more : (a b : List Entry) (number : ℕ) (id : UpdateId) → IsPrefix a b → HasAt a number id → HasAt b number id
has_more a b number id (more, is) h = record {
  counted = h.counted;
  there = ap (λ (v : List UpdateId). slice_get v (number - 1)) (ap ids_of is ∙ map-append (λ (e : Entry). e.id) a more) ∙ get_more (ids_of a) (ids_of more) (number - 1) id h.there;
}

-- the update that joins a history
joined : (s : State) (number : ℕ) (id : UpdateId) → IsFresh (log_of s) number id → HasAt (after_maybe s (event_of_plan id (Ok (Fresh number)))).history number id
joined s number id f =
    let e : Entry = f.entry in
    let named = with_id_some id _ e f.staged in
    let now : state_appended s id (Some e) ≡ after_maybe s (event_of_plan id (Ok (Fresh number))) = ap (state_appended s id) (sym f.staged) in
    let place : number - 1 ≡ length (ids_of s.history) = omega (arith, f.next) in
    let there : slice_get (ids_of (s.history ++ e ∷ [])) (number - 1) ≡ Some id =
    ap (slice_get (ids_of (s.history ++ e ∷ []))) place ∙ ap (λ (v : List UpdateId). slice_get v (length (ids_of s.history))) (ids_snoc s.history e)
    ∙ get_last (ids_of s.history) e.id ∙ ap Some named.1 in
    subst (λ (t : State). HasAt t.history number id) now (record { counted = omega (arith, f.next); there = there })

-- ---- Order

order_full : (b : Bool) (n m : ℕ) → cond b (Ok (Fresh n)) (Err HistoryFull) ≡ Ok (Again m) → ⊥
order_full true n m e = cc
order_full false n m e = cc

order_new : (o : Option Entry) (len : ℕ) (id : UpdateId) (m : ℕ) → order_staged o len id ≡ Ok (Again m) → ⊥
order_new None len id m e = cc
order_new (Some x) len id m e = order_full (nat_lt len 1048576) (len + 1) m e

known_order : (o : Option ℕ) (log : Log) (id : UpdateId) (n : ℕ) → number_of log.ids id ≡ o → order_known o log id ≡ Ok (Again n) → number_of log.ids id ≡ Some n
known_order (Some m) log id n k h = let same : m ≡ n = cc in k ∙ ap Some same
known_order None log id n k h = absurd (order_new (staged_as log.staged id) (length log.ids) id n h)

lead_order : (role : Side) (log : Log) (id : UpdateId) (n : ℕ) → order_as role log id ≡ Ok (Again n) → number_of log.ids id ≡ Some n
lead_order side.Follow log id n h = absurd (cc)
lead_order side.Lead log id n h = known_order (number_of log.ids id) log id n refl h

at_number : (history : List Entry) (id : UpdateId) (n : ℕ) → number_of (ids_of history) id ≡ Some n → HasAt history n id
at_number history id n e = let p = number_there (ids_of history) id 1 n e in record { counted = p.0; there = p.1 }

order_has : (s : State) (id i : UpdateId) (n : ℕ) (r : Result Plan Refusal) → look_order (log_of s) id ≡ r → commit_answer id r ≡ Committed n i → HasAt (after_maybe s (event_of_plan id r)).history n i
order_has s id i n (Err code) e h = absurd (cc)
order_has s id i n (Ok (Again m)) e h =
    let number : m ≡ n = cc in
    let named : id ≡ i = cc in
    subst (λ (k : ℕ). HasAt s.history k i) number (subst (HasAt s.history m) named (at_number s.history id m (lead_order s.role (log_of s) id m e)))
order_has s id i n (Ok (Fresh m)) e h =
    let number : m ≡ n = cc in
    let named : id ≡ i = cc in
    let after : State = after_maybe s (event_of_plan id (Ok (Fresh m))) in
    subst (λ (k : ℕ). HasAt after.history k i) number (subst (HasAt after.history m) named (joined s m id (order_seen (log_of s) id m e).0))

-- ---- Follow

again_if : (b : Bool) (x id : UpdateId) (n m : ℕ) → (b ≡ true → x ≡ id) → cond b (Ok (Again n)) (Err (Taken n x)) ≡ Ok (Again m) → (x ≡ id) × (n ≡ m)
again_if true x id n m is e = (is refl, cc)
again_if false x id n m is e = absurd (cc)

follow_here : (o : Option UpdateId) (number m : ℕ) (id : UpdateId) → (o ≡ None → ⊥) → follow_again o number id ≡ Ok (Again m) → (o ≡ Some id) × (number ≡ m)
follow_here None number m id there e = absurd (there refl)
follow_here (Some x) number m id there e = let p = again_if (same_id x id) x id number m (same_id-true x id) e in (ap Some p.0, p.1)

not_new : (b : Bool) (c : Refusal) (o : Option Entry) (number m : ℕ) (id : UpdateId) → cond b (Err c) (follow_staged o number id) ≡ Ok (Again m) → ⊥
not_new true c o number m id e = cc
not_new false c None number m id e = cc
not_new false c (Some x) number m id e = cc

known_follow : (o : Option ℕ) (log : Log) (number m : ℕ) (id : UpdateId) → follow_known o log number id ≡ Ok (Again m) → ⊥
known_follow (Some k) log number m id e = cc
known_follow None log number m id e = not_new (nat_lt (length log.ids + 1) number) (Gap (length log.ids)) (staged_as log.staged id) number m id e

get_there : (xs : List UpdateId) (i : ℕ) (d : UpdateId) → i < length xs → slice_get xs i ≡ None → ⊥
get_there xs i d l e = let some : slice_get xs i ≡ Some (get_or xs i d) = slice_get-get_or xs i d l in cc

follow_if : (b : Bool) (log : Log) (number m : ℕ) (id : UpdateId) → 1 ≤ number → nat_lt (length log.ids) number ≡ b
    → cond b (follow_known (number_of log.ids id) log number id) (follow_again (slice_get log.ids (number - 1)) number id) ≡ Ok (Again m) → (slice_get log.ids (number - 1) ≡ Some id) × (number ≡ m)
follow_if true log number m id some t e = absurd (known_follow (number_of log.ids id) log number m id e)
follow_if false log number m id some t e =
    let few : number ≤ length log.ids = ltb-false (length log.ids) number t in
    let within : number - 1 < length log.ids = omega (arith, few, some) in
    follow_here (slice_get log.ids (number - 1)) number m id (get_there log.ids (number - 1) id within) e

pub follower : (role : Side) (log : Log) (number m : ℕ) (id : UpdateId) → 1 ≤ number → follow_as role log number id ≡ Ok (Again m) → (slice_get log.ids (number - 1) ≡ Some id) × (number ≡ m)
follower side.Lead log number m id some e = absurd (cc)
follower side.Follow log number m id some e = follow_if (nat_lt (length log.ids) number) log number m id some refl e

follow_has : (s : State) (number : ℕ) (id i : UpdateId) (n : ℕ) (r : Result Plan Refusal) → 1 ≤ number → look_follow (log_of s) number id ≡ r → commit_answer id r ≡ Committed n i → HasAt (after_maybe s (event_of_plan id r)).history n i
follow_has s number id i n (Err code) some e h = absurd (cc)
follow_has s number id i n (Ok (Again m)) some e h =
    let same : m ≡ n = cc in
    let named : id ≡ i = cc in
    let p = follower s.role (log_of s) number m id some e in
    let here : HasAt s.history number id = record { counted = some; there = p.0 } in
    subst (λ (k : ℕ). HasAt s.history k i) (p.1 ∙ same) (subst (HasAt s.history number) named here)
follow_has s number id i n (Ok (Fresh m)) some e h =
    let same : m ≡ n = cc in
    let named : id ≡ i = cc in
    let after : State = after_maybe s (event_of_plan id (Ok (Fresh m))) in
    subst (λ (k : ℕ). HasAt after.history k i) same (subst (HasAt after.history m) named (joined s m id (follow_seen (log_of s) number m id e).0))

-- ---- what a told domain has

-- a request to commit
abbrev pub Commits : Want → Type 0
Commits (Order id) = ⊤
Commits (Follow number id) = 1 ≤ number
Commits _ = ⊥

steps_has : (s next : State) (want : Want) (n : ℕ) (i : UpdateId) → Commits want → Steps s want (Committed n i) next → HasAt next.history n i
steps_has s next (Order id) n i is (inl st) = subst (λ (t : State). HasAt t.history n i) (sym st.now) (order_has s id i n (look_order (log_of s) id) refl (sym st.answer))
steps_has s next (Order id) n i is (inr out) = absurd (let e : Committed n i ≡ Refused NoMemory = out.answer in cc)
steps_has s next (Follow number id) n i is (inl st) = subst (λ (t : State). HasAt t.history n i) (sym st.now) (follow_has s number id i n (look_follow (log_of s) number id) is refl (sym st.answer))
steps_has s next (Follow number id) n i is (inr out) = absurd (let e : Committed n i ≡ Refused NoMemory = out.answer in cc)
steps_has s next _ n i is steps = absurd is

once : (x y : Told) (want : Want) (what : What) → Commits want → IsReplyTo x y want what → StepsOnce x y want what
once x y (Order id) what is by = by
once x y (Follow number id) what is by = by
once x y _ what is by = absurd is

folder_has : (before now : Option Told) (want : Want) (what : What) (n : ℕ) (i : UpdateId) → Commits want → what ≡ Committed n i → IsFolderReply before now want what → (t : Told) × (now ≡ Some t) × HasAt t.history n i
folder_has None now want what n i is e by = absurd (cc)
folder_has (Some x) None want what n i is e by = absurd by
folder_has (Some x) (Some y) want what n i is e by =
    let step = once x y want what is by in
    let at = step.2 in
    let steps : Steps step.0 want (Committed n i) step.1 = subst (λ (w : What). Steps step.0 want w step.1) e at.steps in
    (y, refl, has_more step.1.history y.history n i at.earlier (steps_has step.0 step.1 want n i is steps))

same_what : (frame : List ℕ) (r : Reply) (ask : AskId) (w : What) → reply_in frame ≡ Some r → reply_in frame ≡ Some (record { ask = ask; what = w }) → w ≡ r.what
same_what frame r ask w e i = cc

-- a told domain that confirmed a request to commit has the update at that number
pub told_has : (before now : Option (ℕ → Option Told)) (request : Request) (frame : List ℕ) (r : Reply) (n : ℕ) (i : UpdateId) → Commits request.want → HasReply before now request frame → reply_in frame ≡ Some r → r.what ≡ Committed n i → ToldAt before now request.folder.0 n i
told_has None now request frame r n i is replies came says = tt
told_has (Some before) None request frame r n i is replies came says = absurd replies
told_has (Some before) (Some now) request frame r n i is (what, replied, by) came says =
    folder_has (before request.folder.0) (now request.folder.0) request.want what n i is (same_what frame r request.ask what came replied ∙ says) by
