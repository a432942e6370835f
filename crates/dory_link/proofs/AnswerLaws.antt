-- A reply that was made for the request that the bytes say answers those bytes, and the folders that a core tells only grow.
use Rattle.std.proofs.Common.{◌≡◌, ℕ, Bool, true, false, eqb, List, [], ◌∷◌, Option, Some, None, option_map, Vec, Result, Ok, Err, ap, sym, ◌∙◌, subst, refl, append-nil, inl, inr, ◌⊎◌, eqb-true, eq-eqb, true≢false}
use Rattle.dory_base.specs.declared.ids.UpdateId.{UpdateId}
use Rattle.dory_base.specs.declared.entry.Entry.{Entry}
use Rattle.dory_base.specs.declared.refusal.Refusal.TheVariants.{NoMemory}
use Rattle.dory_base.specs.History.{IsPrefix}
use Rattle.dory_base.specs.Log.{staged_as}
use Rattle.dory_base.specs.declared.event.Event.{Event}
use Rattle.dory_base.specs.Step.{State, log_of, after_maybe, state_appended}
use Rattle.dory_base.specs.declared.event.Event.TheVariants.{Staged, Appended}
use Rattle.dory_base.proofs.StepLaws.{history_is}
use Rattle.dory_dpf.specs.PointKey.{PointKey}
use Rattle.dory_wire.specs.declared.message.Request.{Request}
use Rattle.dory_wire.specs.declared.message.Reply.{Reply}
use Rattle.dory_wire.specs.declared.message.Want.{Want}
use Rattle.dory_wire.specs.declared.message.Want.TheVariants.{Latest, Search, Which, Stage, Order, Follow}
use Rattle.dory_wire.specs.declared.message.What.{What}
use Rattle.dory_wire.specs.declared.message.What.TheVariants.{At, Found as Finds, Id, Staged as Staging, Committed, Refused}
use Rattle.dory_wire.specs.declared.fault.WireFault.{WireFault}
use Rattle.dory_wire.specs.declared.fault.WireFault.TheVariants.{Kind, Body, Trailing, NoMemory as OutOfMemory}
use Rattle.dory_wire.specs.Frame.{message_in}
use Rattle.dory_wire.specs.Reading.{request_in, request_or_none, reply_in, if_read}
use Rattle.dory_wire.proofs.Lengths.{reply_read_back}
use Rattle.dory_wire.specs.Read.{read_of, IsReadAs, IsReadOf}
use Rattle.dory_wire.specs.StepReply.{Steps, answer_of, event_of, IsFinding}
use Rattle.dory_domain.specs.Answered.{IsAnswered, Responds}
use Rattle.dory_domain.specs.Held.{Held, IsHeld, folder_in, in_state, folders_with, Serves, ServesBy}
use Rattle.dory_link.specs.Told.{Told, Grown, Grows, IsReadAt, StepsOnce, IsReplyTo, IsFolderReply, IsReplyFrame}
use Rattle.dory_link.specs.Folders.{told_of, told_folders}
use Rattle.dory_domain.proofs.HeldLaws.{found_changed, others_changed}
use Rattle.dory_base.specs.Dims.{Dims}
use Rattle.std.specs.declared.alloc.Global.{Global}

itself : (history : List Entry) → IsPrefix history history
itself history = ([], sym (append-nil history))

-- ---- one folder

appended_grows : (s : State) (id : UpdateId) (o : Option Entry) → IsPrefix s.history (state_appended s id o).history
appended_grows s id None = itself s.history
appended_grows s id (Some e) = (e ∷ [], refl)

event_grows : (s : State) (event : Option Event) → IsPrefix s.history (after_maybe s event).history
event_grows s None = itself s.history
event_grows s (Some (Staged e)) = itself s.history
event_grows s (Some (Appended id)) = appended_grows s id (staged_as s.staged id)

step_grows : (s next : State) (want : Want) (what : What) → Steps s want what next → IsPrefix s.history next.history
step_grows s next want what (inl done) = subst (λ (n : State). IsPrefix s.history n.history) (sym done.now) (event_grows s (event_of (log_of s) want))
step_grows s next want what (inr out) = subst (λ (n : State). IsPrefix s.history n.history) (sym out.now) (itself s.history)

event_shape : (s : State) (event : Option Event) → ((after_maybe s event).shape ≡ s.shape) × ((after_maybe s event).retained ≡ s.retained)
event_shape s None = (refl, refl)
event_shape s (Some (Staged e)) = (refl, refl)
event_shape s (Some (Appended id)) = by (staged_as s.staged id)
  where
    by : (o : Option Entry) → ((state_appended s id o).shape ≡ s.shape) × ((state_appended s id o).retained ≡ s.retained)
    by None = (refl, refl)
    by (Some e) = (refl, refl)

step_shape : (s next : State) (want : Want) (what : What) → Steps s want what next → (next.shape ≡ s.shape) × (next.retained ≡ s.retained)
step_shape s next want what (inl done) = subst (λ (n : State). (n.shape ≡ s.shape) × (n.retained ≡ s.retained)) (sym done.now) (event_shape s (event_of (log_of s) want))
step_shape s next want what (inr out) = subst (λ (n : State). (n.shape ≡ s.shape) × (n.retained ≡ s.retained)) (sym out.now) (refl, refl)

-- ---- the folders of a domain

same_grown : (o : Option Told) → Grown o o
same_grown None = tt
same_grown (Some t) = record { shape = refl; retained = refl; history = itself t.history }

step_grown : (f : Held) (next : State) (want : Want) (what : What) → Steps f.state want what next → Grown (Some (told_of f)) (Some (told_of (in_state next f)))
step_grown f next want what steps = record {
  shape = (step_shape f.state next want what steps).0;
  retained = (step_shape f.state next want what steps).1;
  history = step_grows f.state next want what steps;
}

folder_grows : (folders : List Held) (n m : ℕ) (f : Held) (next : State) (want : Want) (what : What) → folder_in folders n ≡ Some f → Steps f.state want what next → (b : Bool) → eqb m n ≡ b
    → Grown (told_folders folders m) (told_folders (folders_with n next folders) m)
folder_grows folders n m f next want what there steps true is =
    let e : m ≡ n = eqb-true m n is in
    let before : folder_in folders m ≡ Some f = ap (folder_in folders) e ∙ there in
    let now : folder_in (folders_with n next folders) m ≡ Some (in_state next f) = ap (folder_in (folders_with n next folders)) e ∙ found_changed n next folders f there in
    subst (λ (o : Option Held). Grown (option_map told_of o) (told_folders (folders_with n next folders) m)) (sym before)
    (subst (λ (o : Option Held). Grown (Some (told_of f)) (option_map told_of o)) (sym now) (step_grown f next want what steps))
folder_grows folders n m f next want what there steps false is =
    subst (λ (o : Option Held). Grown (told_folders folders m) (option_map told_of o)) (sym (others_changed n m next folders (λ same. true≢false (sym (eq-eqb m n same) ∙ is)))) (same_grown (told_folders folders m))

served_grows : (o : Option Held) (folders now : List Held) (n : ℕ) (want : Want) (what : What) → folder_in folders n ≡ o → ServesBy o folders n want what now → Grows (Some (told_folders folders)) (Some (told_folders now))
served_grows None folders now n want what there by = λ m. subst (λ (fs : List Held). Grown (told_folders folders m) (told_folders fs m)) (sym by.1) (same_grown (told_folders folders m))
served_grows (Some f) folders now n want what there by = λ m.
    subst (λ (fs : List Held). Grown (told_folders folders m) (told_folders fs m)) (sym by.2) (folder_grows folders n m f by.0 want what there by.1 (eqb m n) refl)

-- what a domain tells is as it was where nothing happened
pub grows_not : (folders : List Held) → Grows (Some (told_folders folders)) (Some (told_folders folders))
grows_not folders = λ m. same_grown (told_folders folders m)

-- what a domain tells only grows
pub grows : (folders now : List Held) (n : ℕ) (want : Want) (what : What) → Serves folders n want what now → Grows (Some (told_folders folders)) (Some (told_folders now))
grows folders now n want what served = served_grows (folder_in folders n) folders now n want what refl served

-- ---- the answer

read_answer : (answer what : What) → what ≡ answer → IsReadAs answer what
read_answer (At length) what is = is
read_answer (Finds f) what is = inl is
read_answer (Id number id) what is = is
read_answer (Staging id) what is = is
read_answer (Committed number id) what is = is
read_answer (Refused code) what is = is

found_ran_out : (answer what : What) → IsFinding answer → what ≡ Refused NoMemory → IsReadAs answer what
found_ran_out (Finds f) what finds is = inr is
found_ran_out (At length) what finds is = absurd finds
found_ran_out (Id number id) what finds is = absurd finds
found_ran_out (Staging id) what finds is = absurd finds
found_ran_out (Committed number id) what finds is = absurd finds
found_ran_out (Refused code) what finds is = absurd finds

search_read : (s next : State) (number : ℕ) (asked : Dims) (keys : List PointKey) (what : What) → Steps s (Search number asked keys) what next → IsReadOf (read_of s.shape s.retained s.history (Search number asked keys)) what
search_read s next number asked keys what (inl done) = read_answer (answer_of s (Search number asked keys)) what done.answer
search_read s next number asked keys what (inr out) = by out.takes
  where
    by : IsFinding (answer_of s (Search number asked keys)) ⊎ ⊥ → IsReadAs (answer_of s (Search number asked keys)) what
    by (inl finds) = found_ran_out (answer_of s (Search number asked keys)) what finds out.answer
    by (inr none) = absurd none

latest_read : (s next : State) (what : What) → Steps s Latest what next → IsReadOf (read_of s.shape s.retained s.history Latest) what
latest_read s next what (inl done) = done.answer
latest_read s next what (inr out) = by out.takes
  where
    by : ⊥ ⊎ ⊥ → IsReadOf (read_of s.shape s.retained s.history Latest) what
    by (inl none) = absurd none
    by (inr none) = absurd none

step_once : (f : Held) (next : State) (want : Want) (what : What) → IsHeld f → Steps f.state want what next → StepsOnce (told_of f) (told_of (in_state next f)) want what
step_once f next want what held steps = (
  f.state,
  next,
  record {
    told = record { shape = refl; retained = refl; state = held.state };
    later = itself f.state.history;
    steps = steps;
    earlier = itself next.history;
  },
)

read_once : (f : Held) (next : State) (want : Want) (what : What) → IsHeld f → Steps f.state want what next → IsReadOf (read_of f.state.shape f.state.retained f.state.history want) what
    → (h : List Entry) × IsReadAt (told_of f) (told_of (in_state next f)) want what h
read_once f next want what held steps value = (
  f.state.history,
  record {
    later = itself f.state.history;
    earlier = step_grows f.state next want what steps;
    is = history_is f.state held.state;
    value = value;
  },
)

answers_to : (f : Held) (next : State) (want : Want) (what : What) → IsHeld f → Steps f.state want what next → IsReplyTo (told_of f) (told_of (in_state next f)) want what
answers_to f next Latest what held steps = read_once f next Latest what held steps (latest_read f.state next what steps)
answers_to f next (Search number asked keys) what held steps = read_once f next (Search number asked keys) what held steps (search_read f.state next number asked keys what steps)
answers_to f next (Which number) what held steps = step_once f next (Which number) what held steps
answers_to f next (Stage e) what held steps = step_once f next (Stage e) what held steps
answers_to f next (Order id) what held steps = step_once f next (Order id) what held steps
answers_to f next (Follow number id) what held steps = step_once f next (Follow number id) what held steps

served : (o : Option Held) (folders now : List Held) (n : ℕ) (want : Want) (what : What) → ((f : Held) → o ≡ Some f → IsHeld f) → folder_in folders n ≡ o → ServesBy o folders n want what now
    → IsFolderReply (told_folders folders n) (told_folders now n) want what
served None folders now n want what held there by =
    subst (λ (a : Option Held). IsFolderReply (option_map told_of a) (told_folders now n) want what) (sym there) by.0
served (Some f) folders now n want what held there by =
    let now_is : folder_in now n ≡ Some (in_state by.0 f) = ap (λ (fs : List Held). folder_in fs n) by.2 ∙ found_changed n by.0 folders f there in
    subst (λ (a : Option Held). IsFolderReply (option_map told_of a) (told_folders now n) want what) (sym there)
    (subst (λ (a : Option Held). IsFolderReply (Some (told_of f)) (option_map told_of a) want what) (sym now_is) (answers_to f by.0 want what (held f refl) by.1))

pub answers : (folders now : List Held) (sent frame : List ℕ) (mine : Request) (reply : Reply) → ((f : Held) → folder_in folders mine.folder.0 ≡ Some f → IsHeld f) → request_in sent ≡ Some mine → reply_in frame ≡ Some reply → reply.ask ≡ mine.ask
    → Serves folders mine.folder.0 mine.want reply.what now → IsReplyFrame (Some (told_folders folders)) (Some (told_folders now)) sent frame
answers folders now sent frame mine reply held asked replied same what = λ request is.
    let some_is : ◌≡◌ {A = Option Request} (Some mine) (Some request) = sym asked ∙ is in
    let e : mine ≡ request = cc in
    let whole : reply_in frame ≡ Some (record { ask = mine.ask; what = reply.what }) = replied ∙ ap (λ a. Some (record { ask = a; what = reply.what })) same in
    let P : Request → Type 0 = λ r. (w : What) × (reply_in frame ≡ Some (record { ask = r.ask; what = w })) × IsFolderReply (told_folders folders r.folder.0) (told_folders now r.folder.0) r.want w in
    subst P e (reply.what, whole, served (folder_in folders mine.folder.0) folders now mine.folder.0 mine.want reply.what held refl what)

-- what answers the message of a frame answers the frame
pub frame_answered : (folders now : List Held) (sent message frame : List ℕ) → message_in sent ≡ Some message → IsAnswered folders message frame now → IsReplyFrame (Some (told_folders folders)) (Some (told_folders now)) sent frame
frame_answered folders now sent message frame whole by =
    let request = by.0 in
    let reply = by.1 in
    let is = by.2 in
    answers folders now sent frame request reply is.held (ap request_or_none whole ∙ ap if_read is.asked) (ap reply_in is.spelled ∙ reply_read_back reply is.range) is.ask is.step

-- a frame whose message has an answer is that of a request
pub frame_read : (folders now : List Held) (sent message frame : List ℕ) → message_in sent ≡ Some message → IsAnswered folders message frame now → (request : Request) × (request_in sent ≡ Some request)
frame_read folders now sent message frame whole by = (by.0, ap request_or_none whole ∙ ap if_read by.2.asked)

answered_grows : (folders now : List Held) (message frame : List ℕ) → IsAnswered folders message frame now → Grows (Some (told_folders folders)) (Some (told_folders now))
answered_grows folders now message frame by = grows folders now by.0.folder.0 by.0.want by.1.what by.2.step

stayed_grows : (folders now : List Held) → now ≡ folders → Grows (Some (told_folders folders)) (Some (told_folders now))
stayed_grows folders now stays = subst (λ (fs : List Held). Grows (Some (told_folders folders)) (Some (told_folders fs))) (sym stays) (grows_not folders)

-- whatever a domain makes of a message, its histories only grow
pub response_grows : (folders now : List Held) (message : List ℕ) (result : Result (Vec ℕ Global) WireFault) → Responds IsAnswered folders message result now → Grows (Some (told_folders folders)) (Some (told_folders now))
response_grows folders now message (Ok frame) by = answered_grows folders now message frame.items by
response_grows folders now message (Err (Kind b)) by = stayed_grows folders now by.1
response_grows folders now message (Err (Body at)) by = stayed_grows folders now by.1
response_grows folders now message (Err (Trailing at)) by = stayed_grows folders now by.1
response_grows folders now message (Err OutOfMemory) (inl stays) = stayed_grows folders now stays
response_grows folders now message (Err OutOfMemory) (inr by) = answered_grows folders now message by.0 by.1
