-- What stays true of a domain's folders after a step of one of them.
use Rattle.std.proofs.Common.{◌≡◌, ◌≢◌, ℕ, zero, suc, ◌<◌, Bool, true, false, cond, List, [], ◌∷◌, length, get_or, set, Option, Some, None, find, position, Ok, Err, Result, arith, ap, ◌∙◌, sym, subst, refl, inl, inr, eqb-true, ne_eqb}
use Rattle.std.proofs.lemmas.List.{length-set, set-get_or}
use Rattle.std.proofs.lemmas.List.Quantifiers.{position-Some}
use Rattle.dory_base.specs.declared.ids.UpdateId.{UpdateId}
use Rattle.dory_base.specs.declared.entry.Entry.{Entry}
use Rattle.dory_base.specs.declared.refusal.Refusal.{Refusal}
use Rattle.dory_base.specs.declared.plan.StagePlan.{StagePlan}
use Rattle.dory_base.specs.declared.plan.StagePlan.TheVariants.{New, Same, Done}
use Rattle.dory_base.specs.declared.plan.Plan.{Plan}
use Rattle.dory_base.specs.declared.plan.Plan.TheVariants.{Again, Fresh}
use Rattle.dory_base.specs.Log.{look_stage, look_order, look_follow}
use Rattle.dory_base.specs.Step.{State, log_of, after_maybe, event_of_stage, event_of_plan}
use Rattle.dory_wire.specs.declared.message.Want.{Want}
use Rattle.dory_wire.specs.declared.message.Want.TheVariants.{Latest, Search, Which, Stage, Order, Follow}
use Rattle.dory_wire.specs.declared.message.What.{What}
use Rattle.dory_wire.specs.declared.message.What.TheVariants.{At, Found as Finds, Id, Staged, Committed, Refused}
use Rattle.dory_wire.specs.StepReply.{stage_answer, commit_answer, answer_of, event_of, Steps}
use Rattle.dory_domain.specs.Held.{Held, IsHeld, AreHeld, is_folder, folder_in, in_state, folders_with, Serves, ServesBy, KeptIfRefused}
use Rattle.dory_domain.proofs.Lists.{none_passes, find_none, find_first}

-- ---- the folder that steps

first_changed : (n : ℕ) (next : State) (folders : List Held) (at : ℕ) (d : Held) → at < length folders → is_folder n (get_or folders at d) ≡ true → ((k : ℕ) → k < at → is_folder n (get_or folders k d) ≡ false)
    → set folders at (in_state next (get_or folders at d)) ≡ folders_with n next folders
first_changed n next [] at d h hit before = absurd (omega arith)
first_changed n next (x ∷ xs) zero d h hit before = sym (ap (λ (b : Bool). cond b (in_state next x ∷ xs) (x ∷ folders_with n next xs)) hit)
first_changed n next (x ∷ xs) (suc at) d h hit before =
    ap (λ (fs : List Held). x ∷ fs) (first_changed n next xs at d (omega arith) hit (λ k low. before (suc k) (omega arith)))
    ∙ sym (ap (λ (b : Bool). cond b (in_state next x ∷ xs) (x ∷ folders_with n next xs)) (before 0 (omega arith)))

-- the folder at the first place of its number
pub there_at : (n : ℕ) (folders : List Held) (at : ℕ) (f : Held) → position (is_folder n) folders ≡ Some at → f ≡ get_or folders at f → folder_in folders n ≡ Some f
there_at n folders at f is read =
    let p = position-Some (is_folder n) folders at f is in
    find_first (is_folder n) folders at f p.0 p.1 p.2 ∙ ap (λ (x : Held). Some x) (sym read)

-- there is none of that number
pub absent_at : (n : ℕ) (folders : List Held) → position (is_folder n) folders ≡ None → folder_in folders n ≡ None
absent_at n folders none = find_none (is_folder n) folders (none_passes (is_folder n) folders none)

-- a step of the folder at that place is what the domain does
pub serves_at : (n : ℕ) (folders : List Held) (at : ℕ) (f g : Held) (want : Want) (what : What) → position (is_folder n) folders ≡ Some at → f ≡ get_or folders at f
    → g.number ≡ f.number → Steps f.state want what g.state → Serves folders n want what (set folders at g)
serves_at n folders at f g want what is read same steps =
    let p = position-Some (is_folder n) folders at f is in
    let g_is : g ≡ in_state g.state (get_or folders at f) = (λ i. record { number = (same ∙ ap (λ (x : Held). x.number) read) i; state = g.state }) in
    let all : set folders at g ≡ folders_with n g.state folders = ap (set folders at) g_is ∙ first_changed n g.state folders at f p.0 p.1 p.2 in
    subst (λ (o : Option Held). ServesBy o folders n want what (set folders at g)) (sym (there_at n folders at f is read)) (g.state, steps, all)

-- ---- the folders stay apart

number_kept : (folders : List Held) (at : ℕ) (g d : Held) → at < length folders → g.number ≡ (get_or folders at d).number → (k : ℕ) → (get_or (set folders at g) k d).number ≡ (get_or folders k d).number
number_kept [] at g d h same k = absurd (omega arith)
number_kept (x ∷ xs) zero g d h same zero = same
number_kept (x ∷ xs) zero g d h same (suc k) = refl
number_kept (x ∷ xs) (suc at) g d h same zero = refl
number_kept (x ∷ xs) (suc at) g d h same (suc k) = number_kept xs at g d (omega arith) same k

-- the folders where one of them is in another state
pub held_set : (folders : List Held) (at : ℕ) (f g : Held) → at < length folders → f ≡ get_or folders at f → g.number ≡ f.number → AreHeld folders → AreHeld (set folders at g)
held_set folders at f g h read same are = record {
  few = omega (arith, are.few, length-set folders at g);
  distinct = λ i j d low high. λ eq.
      let mine : (x : Held) → g.number ≡ (get_or folders at x).number = λ x. same ∙ ap (λ (y : Held). y.number) (read ∙ inside folders at f x h) in
      are.distinct i j d low (omega (arith, length-set folders at g)) (sym (number_kept folders at g d h (mine d) i) ∙ eq ∙ number_kept folders at g d h (mine d) j);
}
  where
    inside : (xs : List Held) (k : ℕ) (x y : Held) → k < length xs → get_or xs k x ≡ get_or xs k y
    inside [] k x y h = absurd (omega arith)
    inside (z ∷ xs) zero x y h = refl
    inside (z ∷ xs) (suc k) x y h = inside xs k x y (omega arith)

-- ---- a refusal changes nothing

abbrev same_if_refused : {A : Type 0} → A → A → What → Type 0
same_if_refused s next (Refused code) = next ≡ s
same_if_refused s next (At length) = Unit {0}
same_if_refused s next (Finds f) = Unit {0}
same_if_refused s next (Id number id) = Unit {0}
same_if_refused s next (Staged id) = Unit {0}
same_if_refused s next (Committed number id) = Unit {0}

read_stays : (s : State) (what : What) → same_if_refused s s what
read_stays s (At length) = tt
read_stays s (Finds f) = tt
read_stays s (Id number id) = tt
read_stays s (Staged id) = tt
read_stays s (Committed number id) = tt
read_stays s (Refused code) = refl

stage_stays : (s : State) (e : Entry) (r : Result StagePlan Refusal) → same_if_refused s (after_maybe s (event_of_stage e r)) (stage_answer e.id r)
stage_stays s e (Ok New) = tt
stage_stays s e (Ok Same) = tt
stage_stays s e (Ok (Done n)) = tt
stage_stays s e (Err code) = refl

commit_stays : (s : State) (id : UpdateId) (r : Result Plan Refusal) → same_if_refused s (after_maybe s (event_of_plan id r)) (commit_answer id r)
commit_stays s id (Ok (Fresh n)) = tt
commit_stays s id (Ok (Again n)) = tt
commit_stays s id (Err code) = refl

stays : (s : State) (want : Want) → same_if_refused s (after_maybe s (event_of (log_of s) want)) (answer_of s want)
stays s Latest = tt
stays s (Search number asked keys) = read_stays s (answer_of s (Search number asked keys))
stays s (Which number) = read_stays s (answer_of s (Which number))
stays s (Stage e) = stage_stays s e (look_stage (log_of s) e)
stays s (Order id) = commit_stays s id (look_order (log_of s) id)
stays s (Follow number id) = commit_stays s id (look_follow (log_of s) number id)

-- a step that refuses leaves the state
pub refused_stays : (s next : State) (want : Want) (what : What) (code : Refusal) → Steps s want what next → what ≡ Refused code → next ≡ s
refused_stays s next want what code (inr out) is = out.now
refused_stays s next want what code (inl done) is =
    done.now ∙ subst (λ (w : What). same_if_refused s (after_maybe s (event_of (log_of s) want)) w) (sym done.answer ∙ is) (stays s want)

-- ---- the folders by their numbers

here_again : (n : ℕ) (next : State) (f : Held) (folders : List Held) (b : Bool) → is_folder n f ≡ b → (g : Held) → cond b (Some f) (find (is_folder n) folders) ≡ Some g
    → ((h : Held) → find (is_folder n) folders ≡ Some h → find (is_folder n) (folders_with n next folders) ≡ Some (in_state next h))
    → find (is_folder n) (cond b (in_state next f ∷ folders) (f ∷ folders_with n next folders)) ≡ Some (in_state next g)
here_again n next f folders true is g found more =
    let e : f ≡ g = cc in
    ap (λ (b : Bool). cond b (Some (in_state next f)) (find (is_folder n) folders)) is ∙ ap (λ (h : Held). Some (in_state next h)) e
here_again n next f folders false is g found more =
    ap (λ (b : Bool). cond b (Some f) (find (is_folder n) (folders_with n next folders))) is ∙ more g found

-- the folder of this number is in the other state
pub found_changed : (n : ℕ) (next : State) (folders : List Held) (f : Held) → folder_in folders n ≡ Some f → folder_in (folders_with n next folders) n ≡ Some (in_state next f)
found_changed n next [] f is = absurd (cc)
found_changed n next (x ∷ folders) f is = here_again n next x folders (is_folder n x) refl f is (λ h. found_changed n next folders h)

other_again : (n m : ℕ) (next : State) (f : Held) (folders : List Held) (b : Bool) → is_folder n f ≡ b → m ≢ n → find (is_folder m) (folders_with n next folders) ≡ find (is_folder m) folders
    → find (is_folder m) (cond b (in_state next f ∷ folders) (f ∷ folders_with n next folders)) ≡ cond (is_folder m f) (Some f) (find (is_folder m) folders)
other_again n m next f folders true is apart rest =
    let no : is_folder m f ≡ false = ne_eqb f.number m (λ same. apart (sym same ∙ eqb-true f.number n is)) in
    ap (λ (b : Bool). cond b (Some (in_state next f)) (find (is_folder m) folders)) no ∙ sym (ap (λ (b : Bool). cond b (Some f) (find (is_folder m) folders)) no)
other_again n m next f folders false is apart rest = ap (cond (is_folder m f) (Some f)) rest

-- any other folder is as it was
pub others_changed : (n m : ℕ) (next : State) (folders : List Held) → m ≢ n → folder_in (folders_with n next folders) m ≡ folder_in folders m
others_changed n m next [] apart = refl
others_changed n m next (f ∷ folders) apart = other_again n m next f folders (is_folder n f) refl apart (others_changed n m next folders apart)

-- ---- what a step of the folder at a place leaves

-- a refusal leaves the folders
pub kept_at : (folders : List Held) (at : ℕ) (f g : Held) (want : Want) (what : What) → f ≡ get_or folders at f → g.number ≡ f.number → Steps f.state want what g.state → KeptIfRefused folders (set folders at g) what
kept_at folders at f g want (At n) read same steps = tt
kept_at folders at f g want (Finds found) read same steps = tt
kept_at folders at f g want (Id n id) read same steps = tt
kept_at folders at f g want (Staged id) read same steps = tt
kept_at folders at f g want (Committed n id) read same steps = tt
kept_at folders at f g want (Refused code) read same steps =
    let state : g.state ≡ f.state = refused_stays f.state g.state want (Refused code) code steps refl in
    let g_is : g ≡ f = (λ i. record { number = same i; state = state i }) in
    ap (set folders at) (g_is ∙ read) ∙ set-get_or folders at f

-- the folder of a number is the one at its first place
pub held_at : (n : ℕ) (folders : List Held) (at : ℕ) (f : Held) → position (is_folder n) folders ≡ Some at → f ≡ get_or folders at f → IsHeld f → (g : Held) → folder_in folders n ≡ Some g → IsHeld g
held_at n folders at f is read held g there =
    let same : ◌≡◌ {A = Option Held} (Some f) (Some g) = sym (there_at n folders at f is read) ∙ there in
    let e : f ≡ g = cc in
    subst IsHeld e held
