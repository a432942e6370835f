-- What a seat has seen only grows.
use Rattle.std.proofs.Common.{◌≡◌, ℕ, Bool, true, false, cond, List, [], ◌∷◌, Option, Some, None, refl, sym, subst, inl, inr}
use Rattle.dory_wire.specs.declared.message.Want.{Want}
use Rattle.dory_wire.specs.declared.message.What.{What}
use Rattle.dory_base.specs.declared.event.Event.{Event}
use Rattle.dory_base.specs.declared.ids.Side.{Side}
use Rattle.dory_base.specs.Step.{log_of}
use Rattle.dory_wire.specs.StepReply.{event_of}
use Rattle.dory_shelf.specs.Published.{Published, Grew}
use Rattle.dory_shelf.proofs.Growing.{grew_self, grew_trans, grew_snoc}
use Rattle.dory_session.specs.declared.end.How.{How}
use Rattle.dory_session.specs.declared.end.How.TheVariants.{Ended, Cut, Length, Kind, Body, Trailing, InputFault, OutputFault, Limit, NoMemory}
use Rattle.dory_session.specs.declared.end.SessionEnd.{SessionEnd}
use Rattle.dory_session.specs.Answered.{AreAnswered}
use Rattle.dory_session.specs.Ends.{IsEnd}
use Rattle.dory_session.specs.Session.{Around, IsSession}
use Rattle.dory_shared.specs.Seen.{Seen, folder_as, is_folder, seen_in, knowing, with_seen}
use Rattle.dory_shared.specs.Answering.{with_made, AnswersAt, AnswersBy}
use Rattle.dory_seats.specs.Answered.{IsAnswered, HaveGrown}

pub grown_self : (seen : List Seen) → HaveGrown seen seen
grown_self [] = tt
grown_self (s ∷ seen) = (grew_self s.known, grown_self seen)

grown_same : (before now : List Seen) → now ≡ before → HaveGrown before now
grown_same before now e = subst (HaveGrown before) (sym e) (grown_self before)

pub grown_trans : (xs ys zs : List Seen) → HaveGrown xs ys → HaveGrown ys zs → HaveGrown xs zs
grown_trans [] [] [] p q = tt
grown_trans (x ∷ xs) (y ∷ ys) (z ∷ zs) p q = (grew_trans x.known y.known z.known p.0 q.0, grown_trans xs ys zs p.1 q.1)
grown_trans [] (y ∷ ys) zs p q = absurd p
grown_trans (x ∷ xs) [] zs p q = absurd p
grown_trans [] [] (z ∷ zs) p q = absurd q
grown_trans (x ∷ xs) (y ∷ ys) [] p q = absurd q

some_same : (x s : Seen) → ◌≡◌ {A = Option Seen} (Some x) (Some s) → x ≡ s
some_same x s e = cc

-- a later history of one folder is seen
seen_grows : (n : ℕ) (known : Published) (seen : List Seen) (s : Seen) → seen_in seen n ≡ Some s → Grew s.known known → HaveGrown seen (with_seen n known seen)
seen_grows n known [] s there grew = tt
seen_grows n known (x ∷ xs) s there grew = by (is_folder n x) there (λ e. seen_grows n known xs s e grew)
  where
    by : (b : Bool) → cond b (Some x) (seen_in xs n) ≡ Some s → (seen_in xs n ≡ Some s → HaveGrown xs (with_seen n known xs)) → HaveGrown (x ∷ xs) (cond b (knowing known x ∷ xs) (x ∷ with_seen n known xs))
    by true e later = (subst (λ (t : Seen). Grew t.known known) (sym (some_same x s e)) grew, grown_self xs)
    by false e later = (grew_self x.known, later e)

made_grows : (h : Published) (o : Option Event) → Grew h (with_made h o)
made_grows h None = grew_self h
made_grows h (Some e) = grew_snoc h e

-- what an answer leaves begins with the history at which it was given
left_grows : (role : Side) (h left : Published) (want : Want) (what : What) → AnswersAt role h want what left → Grew h left
left_grows role h left want what (inl step) = subst (Grew h) (sym step.published) (made_grows h (event_of (log_of (folder_as role h)) want))
left_grows role h left want what (inr out) = subst (Grew h) (sym out.published) (grew_self h)

answered_by : (seen : List Seen) (n : ℕ) (o : Option Seen) (want : Want) (what : What) (now : List Seen) → seen_in seen n ≡ o → AnswersBy o seen n want what now → HaveGrown seen now
answered_by seen n None want what now there a = grown_same seen now a.1
answered_by seen n (Some s) want what now there (known, (at, left, a), is) =
    let grew : Grew s.known known = grew_trans s.known at known a.begins (grew_trans at left known (left_grows s.role at left want what a.answers) a.seen) in
    subst (HaveGrown seen) (sym is) (seen_grows n known seen s there grew)

step_grows : (before : List Seen) (message frame : List ℕ) (now : List Seen) → IsAnswered before message frame now → HaveGrown before now
step_grows before message frame now (request, reply, a) = answered_by before request.folder.0 (seen_in before request.folder.0) request.want reply.what now refl a.answers

all_grow : (before : List Seen) (messages frames : List (List ℕ)) (now : List Seen) → AreAnswered IsAnswered before messages frames now → HaveGrown before now
all_grow before [] [] now h = grown_same before now h
all_grow before (m ∷ ms) (f ∷ fs) now (mid, step, rest) = grown_trans before mid now (step_grows before m f mid step) (all_grow mid ms fs now rest)
all_grow before [] (f ∷ fs) now h = absurd h
all_grow before (m ∷ ms) [] now h = absurd h

end_grows : (how : How) (answered : ℕ) (rest : List ℕ) (a c : Option (List ℕ)) (mid : List Seen) (part : List ℕ) (now : List Seen) → IsEnd IsAnswered how answered rest a c mid part now → HaveGrown mid now
end_grows Ended answered rest a c mid part now e = grown_same mid now e.1.1
end_grows (Cut held) answered rest a c mid part now e = grown_same mid now e.1.1
end_grows (Length n) answered rest a c mid part now e = grown_same mid now e.1.1
end_grows (Kind b) answered rest a c mid part now (message, more, front, (fault, none)) = grown_same mid now none.1
end_grows (Body at) answered rest a c mid part now (message, more, front, (fault, none)) = grown_same mid now none.1
end_grows (Trailing at) answered rest a c mid part now (message, more, front, (fault, none)) = grown_same mid now none.1
end_grows InputFault answered rest a c mid part now e = grown_same mid now e.1.1
end_grows OutputFault answered rest a c mid part now (message, more, front, (frame, step, less)) = step_grows mid message frame now step
end_grows Limit answered rest a c mid part now e = grown_same mid now e.1.1
end_grows NoMemory answered rest a c mid part now (inl none) = grown_same mid now none.1
end_grows NoMemory answered rest a c mid part now (inr (message, more, front, (nothing, inl same))) = grown_same mid now same
end_grows NoMemory answered rest a c mid part now (inr (message, more, front, (nothing, inr (frame, step)))) = step_grows mid message frame now step

-- what a seat has seen after a session begins with what it had seen before
pub session_grows : (before now : Around (List Seen)) (end : SessionEnd) → IsSession IsAnswered before now end → HaveGrown before.seen now.seen
session_grows before now end (messages, frames, rest, part, mid, s) =
    grown_trans before.seen mid now.seen (all_grow before.seen messages frames mid s.replied) (end_grows end.how end.answered rest before.left now.left mid part now.seen s.ended)
