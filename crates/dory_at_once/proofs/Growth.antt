-- What a seat has seen grows with each answer.
use Rattle.std.proofs.Common.{◌≡◌, ◌≤◌, ℕ, Bool, true, false, cond, List, [], ◌∷◌, length, Option, Some, None, inl, inr, refl, ap, sym, ◌∙◌, subst, arith}
use Rattle.std.specs.List.{fold}
use Rattle.std.specs.Option.{option_map}
use Rattle.std.proofs.lemmas.List.{length-append}
use Rattle.std.proofs.lemmas.List.Sums.{fold-append}
use mathlib.Core.List.{IsPrefix}
use Rattle.dory_base.specs.declared.entry.Entry.{Entry}
use Rattle.dory_base.specs.declared.event.Event.{Event}
use Rattle.dory_base.specs.declared.event.Event.TheVariants.{Staged as Stages, Appended}
use Rattle.dory_base.specs.declared.ids.UpdateId.{UpdateId}
use Rattle.dory_base.specs.declared.ids.Side.{Side}
use Rattle.dory_base.specs.declared.ids.Side.TheVariants.{Lead}
use Rattle.dory_base.specs.Log.{staged_as}
use Rattle.dory_base.specs.Step.{State, empty_state, state_appended, after, log_of}
use Rattle.dory_wire.specs.declared.message.Want.{Want}
use Rattle.dory_wire.specs.declared.message.Want.TheVariants.{Latest}
use Rattle.dory_wire.specs.declared.message.What.{What}
use Rattle.dory_wire.specs.StepReply.{event_of}
use Rattle.dory_shelf.specs.Published.{Shelf, Published, Grew, history_of}
use Rattle.dory_shelf.proofs.Growing.{grew_self, grew_trans, grew_snoc}
use Rattle.dory_shared.specs.Seen.{Seen, folder_as, is_folder, seen_in, knowing, with_seen}
use Rattle.dory_shared.specs.Answering.{with_made, AnswersAt, IsAnswered, Answers, AnswersBy}
use Rattle.dory_shared.specs.Reading.{Reads, ReadsBy}
use Rattle.dory_shared.proofs.SeatLists.{reads_answer}
use Rattle.dory_at_once.specs.Growing.{HaveGrown, length_in, updates_of, updates_seen}

-- ---- what grows

pub grown_self : (seen : List Seen) → HaveGrown seen seen
grown_self [] = tt
grown_self (s ∷ seen) = (refl, grew_self s.known, grown_self seen)

known_again : (s t u : Seen) → t ≡ knowing t.known s → u ≡ knowing u.known t → u ≡ knowing u.known s
known_again s t u p q = q ∙ ap (knowing u.known) p

pub grown_trans : (xs ys zs : List Seen) → HaveGrown xs ys → HaveGrown ys zs → HaveGrown xs zs
grown_trans [] [] [] p q = tt
grown_trans [] [] (z ∷ zs) p q = absurd q
grown_trans [] (y ∷ ys) zs p q = absurd p
grown_trans (x ∷ xs) [] zs p q = absurd p
grown_trans (x ∷ xs) (y ∷ ys) [] p q = absurd q
grown_trans (x ∷ xs) (y ∷ ys) (z ∷ zs) p q =
    (known_again x y z p.0 q.0, grew_trans x.known y.known z.known p.1 q.1, grown_trans xs ys zs p.2 q.2)

-- the folder of a number has grown, and the others are the same
pub grown_with : (n : ℕ) (known : Published) (seen : List Seen) (s : Seen) → seen_in seen n ≡ Some s → Grew s.known known → HaveGrown seen (with_seen n known seen)
grown_with n known [] s there grew = tt
grown_with n known (x ∷ seen) s there grew = by (is_folder n x) there (λ is. grown_with n known seen s is grew)
  where
    by : (b : Bool) → cond b (Some x) (seen_in seen n) ≡ Some s → (seen_in seen n ≡ Some s → HaveGrown seen (with_seen n known seen))
        → HaveGrown (x ∷ seen) (cond b (knowing known x ∷ seen) (x ∷ with_seen n known seen))
    by true is rest =
        let same : x ≡ s = cc is in
        (refl, subst (λ (y : Seen). Grew y.known known) (sym same) grew, grown_self seen)
    by false is rest = (refl, grew_self x.known, rest is)

-- ---- by an answer

made_grows : (h : Published) (o : Option Event) → Grew h (with_made h o)
made_grows h None = grew_self h
made_grows h (Some e) = grew_snoc h e

left_grows : (role : Side) (h : Published) (want : Want) (what : What) (left : Published) → AnswersAt role h want what left → Grew h left
left_grows role h want what left (inl stepped) =
    subst (λ (k : Published). Grew h k) (sym stepped.published) (made_grows h (event_of (log_of (folder_as role h)) want))
left_grows role h want what left (inr out) = subst (λ (k : Published). Grew h k) (sym out.published) (grew_self h)

answered_grows : (s : Seen) (want : Want) (what : What) (now : Published) → IsAnswered s want what now → Grew s.known now
answered_grows s want what now answered =
    let a = answered.2 in
    grew_trans s.known answered.0 now a.begins (grew_trans answered.0 answered.1 now (left_grows s.role answered.0 want what answered.1 a.answers) a.seen)

grows_by : (o : Option Seen) (seen : List Seen) (n : ℕ) (want : Want) (what : What) (now : List Seen) → seen_in seen n ≡ o → AnswersBy o seen n want what now → HaveGrown seen now
grows_by None seen n want what now is answers = subst (λ (xs : List Seen). HaveGrown seen xs) (sym answers.1) (grown_self seen)
grows_by (Some s) seen n want what now is answers =
    subst (λ (xs : List Seen). HaveGrown seen xs) (sym answers.2) (grown_with n answers.0 seen s is (answered_grows s want what answers.0 answers.1))

pub grown_answers : (seen : List Seen) (n : ℕ) (want : Want) (what : What) (now : List Seen) → Answers seen n want what now → HaveGrown seen now
grown_answers seen n want what now answers = grows_by (seen_in seen n) seen n want what now refl answers

pub grown_reads : (seen : List Seen) (n : ℕ) (want : Want) (what : What) (now : List Seen) → Reads seen n want what now → HaveGrown seen now
grown_reads seen n want what now reads = grown_answers seen n want what now (reads_answer seen n want what now reads)

-- ---- what is seen of one folder

seen_after : (n : ℕ) (known : Published) (seen : List Seen) → seen_in (with_seen n known seen) n ≡ option_map (knowing known) (seen_in seen n)
seen_after n known [] = refl
seen_after n known (x ∷ seen) = by (is_folder n x) refl (seen_after n known seen)
  where
    by : (b : Bool) → is_folder n x ≡ b → seen_in (with_seen n known seen) n ≡ option_map (knowing known) (seen_in seen n) → seen_in (cond b (knowing known x ∷ seen) (x ∷ with_seen n known seen)) n ≡ option_map (knowing known) (cond b (Some x) (seen_in seen n))
    by true is rest = ap (λ (c : Bool). cond c (Some (knowing known x)) (seen_in seen n)) is
    by false is rest = ap (λ (c : Bool). cond c (Some x) (seen_in (with_seen n known seen) n)) is ∙ rest

latest_by : (o : Option Seen) (seen : List Seen) (n : ℕ) (what : What) (now : List Seen) → seen_in seen n ≡ o → ReadsBy o seen n Latest what now → length_in what ≡ updates_seen n now
latest_by None seen n what now is reads = ap length_in reads.0 ∙ sym (ap (λ (xs : List Seen). updates_seen n xs) reads.1 ∙ ap updates_of is)
latest_by (Some s) seen n what now is reads =
    let there : seen_in now n ≡ Some (knowing reads.0 s) = ap (λ (xs : List Seen). seen_in xs n) reads.3 ∙ (seen_after n reads.0 seen ∙ ap (option_map (knowing reads.0)) is) in
    ap length_in reads.2 ∙ sym (ap updates_of there)

-- the length that is read is the one that then was seen
pub latest_read : (seen : List Seen) (n : ℕ) (what : What) (now : List Seen) → Reads seen n Latest what now → length_in what ≡ updates_seen n now
latest_read seen n what now reads = latest_by (seen_in seen n) seen n what now refl reads

-- ---- how many updates were seen

appended_longer : (s : State) (id : UpdateId) (o : Option Entry) → length s.history ≤ length (state_appended s id o).history
appended_longer s id None = omega arith
appended_longer s id (Some e) = omega (arith, length-append s.history (e ∷ []))

after_longer : (s : State) (e : Event) → length s.history ≤ length (after s e).history
after_longer s (Stages e) = omega arith
after_longer s (Appended id) = appended_longer s id (staged_as s.staged id)

all_longer : (s : State) (events : List Event) → length s.history ≤ length (fold after s events).history
all_longer s [] = omega arith
all_longer s (e ∷ es) =
    let first = after_longer s e in
    let rest = all_longer (after s e) es in
    omega (arith, first, rest)

prefix_longer : (shelf : Shelf) (xs ys : List Event) → IsPrefix xs ys → length (history_of (record { shelf = shelf; events = xs })) ≤ length (history_of (record { shelf = shelf; events = ys }))
prefix_longer shelf xs ys p =
    let start : State = empty_state Lead shelf.shape shelf.retained in
    let all : fold after start ys ≡ fold after (fold after start xs) p.0 = ap (λ (es : List Event). fold after start es) (sym p.1) ∙ fold-append after start xs p.0 in
    subst (λ (s : State). length (fold after start xs).history ≤ length s.history) (sym all) (all_longer (fold after start xs) p.0)

grew_longer : (x y : Published) → Grew x y → length (history_of x) ≤ length (history_of y)
grew_longer x y grew =
    subst (λ (shelf : Shelf). length (history_of x) ≤ length (history_of (record { shelf = shelf; events = y.events }))) (sym grew.0) (prefix_longer x.shelf x.events y.events grew.1)

-- no fewer updates are seen of a folder than before
pub updates_grow : (n : ℕ) (seen now : List Seen) → HaveGrown seen now → updates_seen n seen ≤ updates_seen n now
updates_grow n [] [] grown = omega arith
updates_grow n [] (t ∷ now) grown = absurd grown
updates_grow n (s ∷ seen) [] grown = absurd grown
updates_grow n (s ∷ seen) (t ∷ now) grown =
    subst (λ (b : Bool). updates_of (cond (is_folder n s) (Some s) (seen_in seen n)) ≤ updates_of (cond b (Some t) (seen_in now n))) (sym same) (by (is_folder n s) (updates_grow n seen now grown.2))
  where
    same : is_folder n t ≡ is_folder n s
    same = ap (is_folder n) grown.0

    by : (b : Bool) → updates_seen n seen ≤ updates_seen n now → updates_of (cond b (Some s) (seen_in seen n)) ≤ updates_of (cond b (Some t) (seen_in now n))
    by true rest = grew_longer s.known t.known grown.1
    by false rest = rest
