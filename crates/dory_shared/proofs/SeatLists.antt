-- The folders of a seat, of which one was seen anew.
use Rattle.std.proofs.Common.{◌≡◌, ℕ, zero, suc, ◌+◌, ◌<◌, Bool, true, false, cond, ◌==◌, List, [], ◌∷◌, length, map, drop, get_or, set, Option, Some, None, Result, Ok, Err, find, position, arith, ap, ◌∙◌, sym, subst, refl, inl, inr}
use Rattle.std.specs.List.{remove}
use Rattle.dory_base.specs.declared.ids.Side.{Side}
use Rattle.dory_base.specs.declared.refusal.Refusal.{Refusal}
use Rattle.dory_base.specs.declared.refusal.Refusal.TheVariants.{NoFolder}
use Rattle.dory_wire.specs.declared.message.Want.{Want}
use Rattle.dory_wire.specs.declared.message.Want.TheVariants.{Latest, Search, Which, Stage, Order, Follow}
use Rattle.dory_wire.specs.declared.message.What.{What}
use Rattle.dory_wire.specs.declared.message.What.TheVariants.{At, Found as Finds, Id, Staged, Committed, Refused}
use Rattle.dory_wire.specs.Read.{search_of, IsReadAs}
use Rattle.dory_wire.specs.StepReply.{IsFinding, event_of}
use Rattle.dory_shelf.proofs.Growing.{grew_self}
use Rattle.dory_base.specs.declared.event.Event.{Event}
use Rattle.dory_base.specs.Step.{log_of}
use Rattle.dory_shared.specs.Answering.{with_made, AnswersAt, IsAnswered, Answers, AnswersBy}
use Rattle.std.specs.Prelude.{slice_get}
use Rattle.std.specs.Option.{option_map}
use Rattle.std.proofs.lemmas.List.{map-set, length-set}
use Rattle.std.proofs.lemmas.List.Quantifiers.{position-Some}
use Rattle.std.proofs.lemmas.Option.{slice_get-map, slice_get-get_or}
use Rattle.dory_domain.proofs.Lists.{none_passes, find_none, find_first}
use Rattle.dory_shelf.specs.Published.{Shelf, Published, Grew, history_of}
use Rattle.dory_shared.specs.Reading.{Kept, Noted, IsLater, IsNoteOf, ReadsAt, Reads, ReadsBy, KeepsAt, Keeps, KeepsBy, Tells, TellsBy, Learns, LearnsBy, shelf_in}
use Rattle.dory_shared.specs.Seen.{Seen, Named, folder_as, IsAt, is_folder, seen_in, knowing, with_seen, named_of, names_of}

first_seen : (n : ℕ) (known : Published) (seen : List Seen) (at : ℕ) (d : Seen) → at < length seen → is_folder n (get_or seen at d) ≡ true → ((k : ℕ) → k < at → is_folder n (get_or seen k d) ≡ false)
    → set seen at (knowing known (get_or seen at d)) ≡ with_seen n known seen
first_seen n known [] at d h hit before = absurd (omega arith)
first_seen n known (x ∷ xs) zero d h hit before = sym (ap (λ (b : Bool). cond b (knowing known x ∷ xs) (x ∷ with_seen n known xs)) hit)
first_seen n known (x ∷ xs) (suc at) d h hit before =
    ap (λ (fs : List Seen). x ∷ fs) (first_seen n known xs at d (omega arith) hit (λ k low. before (suc k) (omega arith)))
    ∙ sym (ap (λ (b : Bool). cond b (knowing known x ∷ xs) (x ∷ with_seen n known xs)) (before 0 (omega arith)))

-- the folder at the first place of its number
pub there_at : (n : ℕ) (seen : List Seen) (at : ℕ) (s : Seen) → position (is_folder n) seen ≡ Some at → s ≡ get_or seen at s → seen_in seen n ≡ Some s
there_at n seen at s is read =
    let p = position-Some (is_folder n) seen at s is in
    find_first (is_folder n) seen at s p.0 p.1 p.2 ∙ ap (λ (x : Seen). Some x) (sym read)

-- there is none of that number
pub absent_at : (n : ℕ) (seen : List Seen) → position (is_folder n) seen ≡ None → seen_in seen n ≡ None
absent_at n seen none = find_none (is_folder n) seen (none_passes (is_folder n) seen none)

-- the seat, once more was seen of the folder at that place
pub seen_at : (n : ℕ) (seen : List Seen) (at : ℕ) (s t : Seen) → position (is_folder n) seen ≡ Some at → s ≡ get_or seen at s → t ≡ knowing t.known s → set seen at t ≡ with_seen n t.known seen
seen_at n seen at s t is read same =
    let p = position-Some (is_folder n) seen at s is in
    ap (set seen at) (same ∙ ap (knowing t.known) read) ∙ first_seen n t.known seen at s p.0 p.1 p.2

-- ---- names

named_same : (s t : Seen) → t ≡ knowing t.known s → t.known.shelf ≡ s.known.shelf → named_of t ≡ named_of s
named_same s t same shelf = ap named_of same ∙ (λ i. record { number = s.number; role = s.role; shelf = shelf i })

set_same : (xs : List Named) (at : ℕ) (x : Named) → at < length xs → x ≡ get_or xs at x → set xs at x ≡ xs
set_same [] at x h is = absurd (omega arith)
set_same (y ∷ xs) zero x h is = ap (λ (z : Named). z ∷ xs) is
set_same (y ∷ xs) (suc at) x h is = ap (λ (zs : List Named). y ∷ zs) (set_same xs at x (omega arith) is)

get_named : (seen : List Seen) (at : ℕ) (s : Seen) → at < length seen → s ≡ get_or seen at s → get_or (names_of seen) at (named_of s) ≡ named_of s
get_named [] at s h is = absurd (omega arith)
get_named (x ∷ seen) zero s h is = ap named_of (sym is)
get_named (x ∷ seen) (suc at) s h is = get_named seen at s (omega arith) is

-- the names stay
pub names_stay : (seen : List Seen) (at : ℕ) (s t : Seen) → at < length seen → s ≡ get_or seen at s → t ≡ knowing t.known s → t.known.shelf ≡ s.known.shelf → names_of (set seen at t) ≡ names_of seen
names_stay seen at s t h is same shelf =
    map-set named_of seen at t ∙ ap (set (names_of seen) at) (named_same s t same shelf)
    ∙ set_same (names_of seen) at (named_of s) (subst (λ (n : ℕ). at < n) (sym (length_names seen)) h) (sym (get_named seen at s h is))
  where
    length_names : (xs : List Seen) → length (names_of xs) ≡ length xs
    length_names [] = refl
    length_names (x ∷ xs) = ap suc (length_names xs)

-- the folder at a place of a seat has that place's name
pub name_at : (names : List Named) (seen : List Seen) (at : ℕ) (s : Seen) → names_of seen ≡ names → at < length seen → s ≡ get_or seen at s → IsAt names at s
name_at names seen at s fits h is =
    subst (λ (ns : List Named). slice_get ns at ≡ Some (named_of s)) fits
    (slice_get-map named_of seen at ∙ ap (option_map named_of) (slice_get-get_or seen at s h) ∙ ap (λ (x : Seen). Some (named_of x)) (sym is))

-- ---- notes

shelf_found : (n : ℕ) (seen : List Seen) → shelf_in (names_of seen) n ≡ option_map (λ (s : Seen). s.known.shelf) (seen_in seen n)
shelf_found n [] = refl
shelf_found n (x ∷ seen) = by (is_folder n x) (shelf_found n seen)
  where
    by : (b : Bool) → shelf_in (names_of seen) n ≡ option_map (λ (s : Seen). s.known.shelf) (seen_in seen n)
        → option_map (λ (m : Named). m.shelf) (cond b (Some (named_of x)) (find (λ (m : Named). m.number == n) (names_of seen))) ≡ option_map (λ (s : Seen). s.known.shelf) (cond b (Some x) (find (is_folder n) seen))
    by true rest = refl
    by false rest = rest

-- a note of a folder of a seat is of that folder's shelf
pub note_at : (seen : List Seen) (note : Noted) (s : Seen) → IsNoteOf (names_of seen) note → seen_in seen note.number ≡ Some s → note.known.shelf ≡ s.known.shelf
note_at seen note s of there =
    let e : ◌≡◌ {A = Option Shelf} (Some note.known.shelf) (Some s.known.shelf) =
    sym of ∙ shelf_found note.number seen ∙ ap (option_map (λ (t : Seen). t.known.shelf)) there in
    cc

-- what is told of a folder of a seat is a note of it
pub noted : (seen : List Seen) (number : ℕ) (known : Published) (s : Seen) → seen_in seen number ≡ Some s → known.shelf ≡ s.known.shelf → IsNoteOf (names_of seen) (record { number = number; known = known })
noted seen number known s there same =
    shelf_found number seen ∙ ap (option_map (λ (t : Seen). t.known.shelf)) there ∙ ap Some (sym same)

-- ---- what a seat is answered, by the place of its folder

pub reads_at : (n : ℕ) (seen : List Seen) (at : ℕ) (s t : Seen) (want : Want) (what : What) → position (is_folder n) seen ≡ Some at → s ≡ get_or seen at s → t ≡ knowing t.known s
    → IsLater s t.known → ReadsAt t.known want what → Reads seen n want what (set seen at t)
reads_at n seen at s t want what is read same later reads =
    subst (λ (o : Option Seen). ReadsBy o seen n want what (set seen at t)) (sym (there_at n seen at s is read)) (t.known, later, reads, seen_at n seen at s t is read same)

pub reads_none : (n : ℕ) (seen : List Seen) (want : Want) (what : What) → position (is_folder n) seen ≡ None → what ≡ Refused NoFolder → Reads seen n want what seen
reads_none n seen want what none is = subst (λ (o : Option Seen). ReadsBy o seen n want what seen) (sym (absent_at n seen none)) (is, refl)

pub keeps_at : (n number : ℕ) (seen : List Seen) (at : ℕ) (s t : Seen) (r : Result Kept Refusal) → position (is_folder n) seen ≡ Some at → s ≡ get_or seen at s → t ≡ knowing t.known s
    → IsLater s t.known → KeepsAt t.known number r → Keeps seen n number r (set seen at t)
keeps_at n number seen at s t r is read same later keeps =
    subst (λ (o : Option Seen). KeepsBy o seen n number r (set seen at t)) (sym (there_at n seen at s is read)) (t.known, later, keeps, seen_at n seen at s t is read same)

pub keeps_none : (n number : ℕ) (seen : List Seen) → position (is_folder n) seen ≡ None → Keeps seen n number (Err NoFolder) seen
keeps_none n number seen none = subst (λ (o : Option Seen). KeepsBy o seen n number (Err NoFolder) seen) (sym (absent_at n seen none)) (refl, refl)

pub learns_at : (note : Noted) (seen : List Seen) (at : ℕ) (s t : Seen) → position (is_folder note.number) seen ≡ Some at → s ≡ get_or seen at s → t ≡ knowing t.known s
    → Grew s.known t.known → Grew note.known t.known → Learns seen note (set seen at t)
learns_at note seen at s t is read same grew told =
    subst (λ (o : Option Seen). LearnsBy o seen note (set seen at t)) (sym (there_at note.number seen at s is read)) (t.known, grew, told, seen_at note.number seen at s t is read same)

pub learns_none : (note : Noted) (seen : List Seen) → position (is_folder note.number) seen ≡ None → Learns seen note seen
learns_none note seen none = subst (λ (o : Option Seen). LearnsBy o seen note seen) (sym (absent_at note.number seen none)) refl

pub tells_at : (n : ℕ) (seen : List Seen) (at : ℕ) (s t : Seen) (r : Result Noted Refusal) → position (is_folder n) seen ≡ Some at → s ≡ get_or seen at s → t ≡ knowing t.known s
    → IsLater s t.known → r ≡ Ok (record { number = n; known = t.known }) → Tells seen n r (set seen at t)
tells_at n seen at s t r is read same later told =
    subst (λ (o : Option Seen). TellsBy o seen n r (set seen at t)) (sym (there_at n seen at s is read)) (t.known, later, told, seen_at n seen at s t is read same)

pub tells_none : (n : ℕ) (seen : List Seen) → position (is_folder n) seen ≡ None → Tells seen n (Err NoFolder) seen
tells_none n seen none = subst (λ (o : Option Seen). TellsBy o seen n (Err NoFolder) seen) (sym (absent_at n seen none)) (refl, refl)

pub answers_at : (n : ℕ) (seen : List Seen) (at : ℕ) (s t : Seen) (want : Want) (what : What) → position (is_folder n) seen ≡ Some at → s ≡ get_or seen at s → t ≡ knowing t.known s
    → IsAnswered s want what t.known → Answers seen n want what (set seen at t)
answers_at n seen at s t want what is read same answered =
    subst (λ (o : Option Seen). AnswersBy o seen n want what (set seen at t)) (sym (there_at n seen at s is read)) (t.known, answered, seen_at n seen at s t is read same)

pub answers_none : (n : ℕ) (seen : List Seen) (want : Want) (what : What) → position (is_folder n) seen ≡ None → what ≡ Refused NoFolder → Answers seen n want what seen
answers_none n seen want what none is = subst (λ (o : Option Seen). AnswersBy o seen n want what seen) (sym (absent_at n seen none)) (is, refl)

-- ---- a read is an answer

read_as : (role : Side) (h : Published) (want : Want) (what : What) → ReadsAt h want what → AnswersAt role h want what h
read_as role h Latest what reads = inl (record { answer = reads; published = refl })
read_as role h (Search number asked keys) what reads = by (search_of h.shelf.shape h.shelf.retained (history_of h) number asked keys) refl reads
  where
    by : (x : What) → search_of h.shelf.shape h.shelf.retained (history_of h) number asked keys ≡ x → IsReadAs x what → AnswersAt role h (Search number asked keys) what h
    by (At length) is given = inl (record { answer = given ∙ sym is; published = refl })
    by (Id m name) is given = inl (record { answer = given ∙ sym is; published = refl })
    by (Staged name) is given = inl (record { answer = given ∙ sym is; published = refl })
    by (Committed m name) is given = inl (record { answer = given ∙ sym is; published = refl })
    by (Refused code) is given = inl (record { answer = given ∙ sym is; published = refl })
    by (Finds f) is (inl given) = inl (record { answer = given ∙ sym is; published = refl })
    by (Finds f) is (inr given) = inr (record { takes = inl (subst IsFinding (sym is) tt); answer = given; published = refl })
read_as role h (Which number) what reads = absurd reads
read_as role h (Stage e) what reads = absurd reads
read_as role h (Order id) what reads = absurd reads
read_as role h (Follow number id) what reads = absurd reads

reads_by : (o : Option Seen) (seen : List Seen) (n : ℕ) (want : Want) (what : What) (now : List Seen) → ReadsBy o seen n want what now → AnswersBy o seen n want what now
reads_by None seen n want what now reads = reads
reads_by (Some s) seen n want what now reads = (
  reads.0,
  (reads.0, reads.0, record { lawful = reads.1.lawful; begins = reads.1.begins; answers = read_as s.role reads.0 want what reads.2; seen = grew_self reads.0 }),
  reads.3,
)

pub reads_answer : (seen : List Seen) (n : ℕ) (want : Want) (what : What) (now : List Seen) → Reads seen n want what now → Answers seen n want what now
reads_answer seen n want what now reads = reads_by (seen_in seen n) seen n want what now reads

-- ---- the folders that are left to be put behind locks

get_dropped : (names : List Named) (i : ℕ) → slice_get names i ≡ slice_get (drop i names) 0
get_dropped names zero = refl
get_dropped [] (suc i) = refl
get_dropped (x ∷ names) (suc i) = get_dropped names i

drop_more : (names rest : List Named) (i : ℕ) (x : Named) → x ∷ rest ≡ drop i names → rest ≡ drop (suc i) names
drop_more [] rest zero x is = absurd (cc is)
drop_more (y ∷ names) rest zero x is = cc is
drop_more [] rest (suc i) x is = absurd (cc is)
drop_more (y ∷ names) rest (suc i) x is = drop_more names rest i x is

-- the first of them has the name of the next place
pub first_named : (names : List Named) (i : ℕ) (left : List Seen) (s : Seen) → names_of left ≡ drop i names → 0 < length left → s ≡ get_or left 0 s → IsAt names i s
first_named names i [] s is some at = absurd (omega arith)
first_named names i (x ∷ left) s is some at =
    get_dropped names i ∙ ap (λ (ns : List Named). slice_get ns 0) (sym is) ∙ ap (λ (y : Seen). Some (named_of y)) (sym at)

-- and the others those of the places after
pub rest_named : (names : List Named) (i : ℕ) (left : List Seen) → names_of left ≡ drop i names → 0 < length left → names_of (remove left 0) ≡ drop (i + 1) names
rest_named names i [] is some = absurd (omega arith)
rest_named names i (x ∷ left) is some =
    let next : suc i ≡ i + 1 = omega arith in
    drop_more names (names_of left) i (named_of x) is ∙ ap (λ (n : ℕ). drop n names) next

made_shelf : (h : Published) (o : Option Event) → (with_made h o).shelf ≡ h.shelf
made_shelf h None = refl
made_shelf h (Some e) = refl

answers_shelf : (role : Side) (h : Published) (want : Want) (what : What) (left : Published) → AnswersAt role h want what left → left.shelf ≡ h.shelf
answers_shelf role h want what left (inl stepped) = ap (λ (k : Published). k.shelf) stepped.published ∙ made_shelf h (event_of (log_of (folder_as role h)) want)
answers_shelf role h want what left (inr out) = ap (λ (k : Published). k.shelf) out.published

-- what was answered leaves the shelf
pub answered_shelf : (s : Seen) (want : Want) (what : What) (now : Published) → IsAnswered s want what now → now.shelf ≡ s.known.shelf
answered_shelf s want what now answered =
    let a = answered.2 in
    a.seen.0 ∙ (answers_shelf s.role answered.0 want what answered.1 a.answers ∙ a.begins.0)
