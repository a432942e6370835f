-- An input of requests is answered whole.
use Rattle.std.proofs.Common.{◌≡◌, ◌∙◌, ℕ, suc, ◌+◌, ◌<◌, List, [], ◌∷◌, ◌++◌, length, Option, Some, None, Result, Ok, Err, refl, sym, ap, subst, arith, append_assoc, append-nil}
use Rattle.std.specs.Io.KnownBytes.{Consumes}
use Rattle.std.specs.List.{AllByRecursion}
use Rattle.std.specs.Int.{w32, to_be_bytes}
use Rattle.std.proofs.lemmas.List.{length-append}
use Rattle.dory_wire.specs.declared.message.Request.{Request}
use Rattle.dory_wire.specs.declared.fault.WireFault.{WireFault}
use Rattle.dory_wire.specs.Frame.{frame_of}
use Rattle.dory_wire.specs.Cut.{IsMessage, frames_of, front_of}
use Rattle.dory_wire.specs.Reading.{request_of}
use Rattle.dory_wire.proofs.Cuts.{front_frame, front_more, front_wrong, front_nothing}
use Rattle.dory_io.specs.Causes.{Rose, HasCause}
use Rattle.dory_domain.specs.Answered.{Steps}
use Rattle.dory_session.specs.declared.end.How.{How}
use Rattle.dory_session.specs.declared.end.How.TheVariants.{Ended, Cut, Length, Kind, Body, Trailing, InputFault, OutputFault, Limit, NoMemory}
use Rattle.dory_session.specs.Answered.{AreAnswered}
use Rattle.dory_session.specs.Ends.{IsEnd}
use Rattle.dory_session.specs.Session.{Around, IsSession, IsAsking, IsWell, EndsWell}

-- as many frames as messages
same_number : {V : Type 0} (steps : Steps V) (before now : V) (messages frames : List (List ℕ)) → AreAnswered steps before messages frames now → length messages ≡ length frames
same_number steps before now [] [] h = refl
same_number steps before now (m ∷ ms) (f ∷ fs) h = ap (λ n. suc n) (same_number steps h.0 now ms fs h.2)
same_number steps before now [] (f ∷ fs) h = absurd h
same_number steps before now (m ∷ ms) [] h = absurd h

-- requests that come after messages
pub record Others (asked messages : List (List ℕ)) (tail : List ℕ) : Type 0 where
  pub others : List (List ℕ)
  pub bytes : tail ≡ frames_of others
  pub each : AllByRecursion IsAsking others
  pub count : length asked ≡ length messages + length others

front_apart : (m n a b : List ℕ) → ◌≡◌ {A = Result (Option (List ℕ × List ℕ)) ℕ} (Ok (Some (m, a))) (Ok (Some (n, b))) → (m ≡ n) × (a ≡ b)
front_apart m n a b e = let x : ◌≡◌ {A = List ℕ × List ℕ} (m, a) (n, b) = cc in (ap (λ p. p.0) x, ap (λ p. p.1) x)

-- where requests' frames begin with messages' frames, those are the first requests
first_requests : (asked messages : List (List ℕ)) (tail : List ℕ) → AllByRecursion IsAsking asked → AllByRecursion IsMessage messages → frames_of asked ≡ frames_of messages ++ tail → Others asked messages tail
first_requests asked [] tail all each e = record { others = asked; bytes = sym e; each = all; count = omega arith }
first_requests [] (m ∷ ms) tail all each e =
    absurd (omega (arith, ap length e, length-append (frame_of m ++ frames_of ms) tail, length-append (frame_of m) (frames_of ms), length-append (to_be_bytes w32 (length m)) m, each.0.some))
first_requests (n ∷ asked) (m ∷ ms) tail all each e =
    let parts : frame_of n ++ frames_of asked ≡ frame_of m ++ (frames_of ms ++ tail) = e ∙ append_assoc (frame_of m) (frames_of ms) tail in
    let fronts = sym (front_frame n (frames_of asked) all.0.0) ∙ ap front_of parts ∙ front_frame m (frames_of ms ++ tail) each.0 in
    let apart = front_apart n m (frames_of asked) (frames_of ms ++ tail) fronts in
    let after = first_requests asked ms tail all.1 each.1 apart.1 in
    record { others = after.others; bytes = after.bytes; each = after.each; count = omega (arith, after.count) }

-- the front of requests' frames has no length out of range
no_length : (others : List (List ℕ)) (n : ℕ) → AllByRecursion IsAsking others → front_of (frames_of others) ≡ Err n → ⊥
no_length [] n all e = let x : ◌≡◌ {A = Result (Option (List ℕ × List ℕ)) ℕ} (Ok None) (Err n) = sym front_nothing ∙ e in absurd cc
no_length (o ∷ os) n all e = let x : ◌≡◌ {A = Result (Option (List ℕ × List ℕ)) ℕ} (Ok (Some (o, frames_of os))) (Err n) = sym (front_frame o (frames_of os) all.0.0) ∙ e in absurd cc

-- requests' frames with no whole message at the front are no bytes
no_part : (others : List (List ℕ)) → AllByRecursion IsAsking others → front_of (frames_of others) ≡ Ok None → frames_of others ≡ []
no_part [] all e = refl
no_part (o ∷ os) all e = let x : ◌≡◌ {A = Result (Option (List ℕ × List ℕ)) ℕ} (Ok (Some (o, frames_of os))) (Ok None) = sym (front_frame o (frames_of os) all.0.0) ∙ e in absurd cc

not_both : (request : Request) (fault : WireFault) → ◌≡◌ {A = Result Request WireFault} (Ok request) (Err fault) → ⊥
not_both request fault e = absurd cc

-- the message at the front of requests' frames is a request
no_fault : (others : List (List ℕ)) (message more : List ℕ) (fault : WireFault) → AllByRecursion IsAsking others → front_of (frames_of others) ≡ Ok (Some (message, more)) → request_of message ≡ Err fault → ⊥
no_fault [] message more fault all e f = let x : ◌≡◌ {A = Result (Option (List ℕ × List ℕ)) ℕ} (Ok None) (Ok (Some (message, more))) = sym front_nothing ∙ e in absurd cc
no_fault (o ∷ os) message more fault all e f =
    let apart = front_apart o message (frames_of os) more (sym (front_frame o (frames_of os) all.0.0) ∙ e) in
    not_both all.0.1.0 fault (sym all.0.1.1 ∙ ap request_of apart.0 ∙ f)

-- no fault ends a session where what is left of the input are requests' frames
rest_well : {V : Type 0} (steps : Steps V) (how : How) (answered : ℕ) (asked others : List (List ℕ)) (rest now : List ℕ) (mid seen : V) (part : List ℕ) → AllByRecursion IsAsking others → rest ++ now ≡ frames_of others → answered < 4294967295 → (how ≡ InputFault → ⊥) → (how ≡ OutputFault → ⊥) → IsEnd steps how answered rest (Some (frames_of asked)) (Some now) mid part seen → EndsWell how
rest_well steps Ended answered asked others rest now mid seen part all e few no_in no_out end = tt
rest_well steps (Cut held) answered asked others rest now mid seen part all e few no_in no_out end =
    let bytes : rest ≡ frames_of others = sym (append-nil rest) ∙ ap (λ b. rest ++ b) (sym end.0.3) ∙ e in
    end.0.0 (bytes ∙ no_part others all (ap front_of (sym bytes) ∙ end.0.2))
rest_well steps (Length n) answered asked others rest now mid seen part all e few no_in no_out end =
    no_length others n all (ap front_of (sym e) ∙ front_wrong rest now n end.0)
rest_well steps (Kind b) answered asked others rest now mid seen part all e few no_in no_out end =
    no_fault others end.0 (end.1 ++ now) _ all (ap front_of (sym e) ∙ front_more rest end.0 end.1 now end.2) end.3.0
rest_well steps (Body at) answered asked others rest now mid seen part all e few no_in no_out end =
    no_fault others end.0 (end.1 ++ now) _ all (ap front_of (sym e) ∙ front_more rest end.0 end.1 now end.2) end.3.0
rest_well steps (Trailing at) answered asked others rest now mid seen part all e few no_in no_out end =
    no_fault others end.0 (end.1 ++ now) _ all (ap front_of (sym e) ∙ front_more rest end.0 end.1 now end.2) end.3.0
rest_well steps InputFault answered asked others rest now mid seen part all e few no_in no_out end = no_in refl
rest_well steps OutputFault answered asked others rest now mid seen part all e few no_in no_out end = no_out refl
rest_well steps Limit answered asked others rest now mid seen part all e few no_in no_out end = absurd (omega (arith, few, end.0))
rest_well steps NoMemory answered asked others rest now mid seen part all e few no_in no_out end = tt

left_well : {V : Type 0} (steps : Steps V) (how : How) (answered : ℕ) (asked messages : List (List ℕ)) (rest : List ℕ) (left : Option (List ℕ)) (mid seen : V) (part : List ℕ) → AllByRecursion IsAsking asked → AllByRecursion IsMessage messages → Consumes (Some (frames_of asked)) left (frames_of messages ++ rest) → answered ≡ length messages → length asked < 4294967295 → (how ≡ InputFault → ⊥) → (how ≡ OutputFault → ⊥) → IsEnd steps how answered rest (Some (frames_of asked)) left mid part seen → EndsWell how
left_well steps how answered asked messages rest None mid seen part all each came count few no_in no_out end = absurd came
left_well steps how answered asked messages rest (Some now) mid seen part all each came count few no_in no_out end =
    let o = first_requests asked messages (rest ++ now) all each (came ∙ append_assoc (frames_of messages) rest now) in
    rest_well steps how answered asked o.others rest now mid seen part o.each o.bytes (omega (arith, count, few, o.count)) no_in no_out end

-- a session on an input of requests ends well where no count rose
pub ends_well : {V : Type 0} (steps : Steps V) (before now : Around V) (answered : ℕ) (how : How) (m m' k k' : ℕ) → IsSession steps before now (record { answered = answered; how = how }) → HasCause m m' (how ≡ InputFault) → HasCause k k' (how ≡ OutputFault) → IsWell before.left → (Rose m m' → ⊥) → (Rose k k' → ⊥) → EndsWell how
ends_well steps before now answered how m m' k k' session in_cause out_cause well no_in no_out =
    let s = session.5 in
    let messages = session.0 in
    let count : answered ≡ length messages = s.count ∙ sym (same_number steps before.seen session.4 messages session.1 s.replied) in
    let came : Consumes (Some (frames_of well.0)) now.left (frames_of messages ++ session.2) = subst (λ (left : Option (List ℕ)). Consumes left now.left (frames_of messages ++ session.2)) well.1 s.came.first in
    let end = subst (λ (left : Option (List ℕ)). IsEnd steps how answered session.2 left now.left session.4 session.3 now.seen) well.1 s.ended in
    left_well steps how answered well.0 messages session.2 now.left session.4 now.seen session.3 well.2 s.each came count well.3 (λ e. no_in (in_cause.rose e)) (λ e. no_out (out_cause.rose e)) end
