-- The course of a search, as the frames that came to its run make it.
use Rattle.std.proofs.Common.{◌≡◌, ℕ, List, [], ◌∷◌, ◌++◌, ◌-◌, take, replicate, Option, None, Some, Result, Ok, Err, refl, ap, sym, ◌∙◌, subst, inl, inr}
use Rattle.std.proofs.Math.Seq.{take-append_seam}
use Rattle.dory_base.specs.declared.found.Found.{Found}
use Rattle.dory_hmac.specs.declared.folder_keys.FolderKeys.{FolderKeys}
use Rattle.dory_bloom.proofs.Columns.{length-positions_of}
use Rattle.dory_query.specs.declared.query.Query.{Query}
use Rattle.dory_query.specs.Columns.{asked_columns}
use Rattle.dory_verify.specs.declared.fault.CheckFault.{CheckFault}
use Rattle.dory_verify.specs.Checks.{first_fault_of, lengths_of}
use Rattle.dory_verify.specs.Listing.{Lists}
use Rattle.dory_wire.specs.declared.message.Want.TheVariants.{Latest}
use Rattle.dory_state.specs.declared.kept.KeptState.{KeptState}
use Rattle.dory_member.specs.declared.outcome.Outcome.{Outcome}
use Rattle.dory_member.specs.declared.outcome.Outcome.TheVariants.{Accepted, Failed as Fails}
use Rattle.dory_member.specs.declared.outcome.Fault.TheVariants as fault
use Rattle.dory_member.specs.declared.phase.Phase.TheVariants.{Measuring}
use Rattle.dory_member.specs.declared.phase.Run.{Run}
use Rattle.dory_member.specs.Course.{after_lengths, after_search, answer_by, asking, ended_of, folder_keys, outcome_at, lesser, moved, query_of, run_after, took}
use Rattle.dory_member.proofs.Queries.{lists_answer}
use Rattle.dory_wire.specs.declared.message.Request.{Request}
use Rattle.dory_link.specs.Told.{Heard}
use Rattle.dory_drive.specs.Asked.{Exchanged}
use Rattle.dory_client.specs.Sought.{ask_of, step_request, sought_columns, searching, sought_of}
use Rattle.dory_client.specs.Way.{ExchangedInTurn}
use Rattle.dory_drive.specs.Way.{Links}
use Rattle.dory_client.proofs.Course.{Pair, Lengths, Finding, Searched, Answered, Failed}

-- the run of a search
abbrev pub start : KeptState → List ℕ → ℕ → List ℕ → Run
start k seed used word = asking k seed used (Measuring (Some word) None)

-- what an outcome says of a search's course
abbrev pub CourseOf : KeptState → List ℕ → List ℕ → Links → Links → Outcome → Type 0
CourseOf k seed word a z (Accepted answer) = Answered a.lead z.lead a.follow z.follow k (sought_of k seed word) answer
CourseOf k seed word a z (Fails (fault.Check f)) = Failed a.lead z.lead a.follow z.follow k (sought_of k seed word) f
CourseOf k seed word a z _ = ⊥

-- ---- the parts of a search's course

-- the query of a search asks for the word's columns
columns_are : (run : Run) (word : List ℕ) (version : ℕ) → asked_columns (query_of run word version) ≡ sought_columns run.kept word
columns_are run word version =
    let columns : List ℕ = sought_columns run.kept word in
    let zeros : List ℕ = replicate (8 - run.kept.shape.probes) 0 in
    ap (λ (n : ℕ). take n (columns ++ zeros)) (sym (length-positions_of (folder_keys run.kept) run.kept.shape word)) ∙ take-append_seam columns zeros

-- two asks, of the lead and then of the follower, over both links
pub both_asked : {Y : Type 0} (a m n : Links) (r s : Request) (f g : List ℕ) (check : List ℕ → List ℕ → Result Y CheckFault) (gave : Result Y CheckFault) → Exchanged a.lead m.lead r f → m.follow ≡ a.follow → n.lead ≡ m.lead → Exchanged m.follow n.follow s g → check f g ≡ gave
    → Pair a.lead n.lead a.follow n.follow r s check gave
both_asked a m n r s f g check gave first same other second checked = record {
  from_lead = f;
  from_follow = g;
  asked_lead = subst (λ (h : Heard). Exchanged a.lead h r f) (sym other) first;
  asked_follow = subst (λ (h : Heard). Exchanged h n.follow s g) same second;
  checked = checked;
}

no_ends : (k : KeptState) (seed word : List ℕ) (a z : Links) (o : Outcome) → None ≡ Some o → CourseOf k seed word a z o
no_ends k seed word a z o e = absurd (cc)

one_end : (k : KeptState) (seed word : List ℕ) (a z : Links) (o p : Outcome) → Some p ≡ Some o → CourseOf k seed word a z p → CourseOf k seed word a z o
one_end k seed word a z o p e course = let same : p ≡ o = cc in subst (CourseOf k seed word a z) same course

-- the runs of a search, ask by ask
abbrev once : KeptState → List ℕ → ℕ → List ℕ → List ℕ → Run
once k seed used word f = took (start k seed used word) f

abbrev measured : KeptState → List ℕ → ℕ → List ℕ → List ℕ → Result (ℕ × ℕ) CheckFault → Run
measured k seed used word f r = moved (once k seed used word f) (after_lengths (once k seed used word f) (Some word) r)

abbrev query : KeptState → List ℕ → ℕ → List ℕ → List ℕ → ℕ × ℕ → Query
query k seed used word f n = query_of (once k seed used word f) word (lesser n.0 n.1)

abbrev half : KeptState → List ℕ → ℕ → List ℕ → List ℕ → ℕ × ℕ → List ℕ → Run
half k seed used word f n g = took (measured k seed used word f (Ok n)) g

abbrev searched_run : KeptState → List ℕ → ℕ → List ℕ → List ℕ → ℕ × ℕ → List ℕ → Result (Found × Found) CheckFault → Run
searched_run k seed used word f n g r = moved (half k seed used word f n g) (after_search (folder_keys (half k seed used word f n g).kept) (query k seed used word f n) r)

abbrev outcome_after : Run → List (List ℕ) → Option Outcome
outcome_after run frames = outcome_at (run_after run frames).phase

searched : (k : KeptState) (seed word : List ℕ) (a b z : Links) (n : ℕ × ℕ) (gave : Result (Found × Found) CheckFault) → Lengths a.lead b.lead a.follow b.follow k (Ok n)
    → Finding b.lead z.lead b.follow z.follow k (lesser n.0 n.1) (sought_of k seed word) gave → Searched a.lead z.lead a.follow z.follow k (sought_of k seed word) (lesser n.0 n.1) gave
searched k seed word a b z n gave first second = record { lead_between = b.lead; follow_between = b.follow; lengths = n; first = first; smaller = refl; second = second }

-- where the second pair was checked
by_found : (k : KeptState) (seed : List ℕ) (used : ℕ) (word f : List ℕ) (n : ℕ × ℕ) (g : List ℕ) (rest : List (List ℕ)) (a b c z : Links) (o : Outcome) (r : Result (Found × Found) CheckFault)
    → Lengths a.lead b.lead a.follow b.follow k (Ok n) → Finding b.lead c.lead b.follow c.follow k (lesser n.0 n.1) (sought_of k seed word) r
    → ExchangedInTurn (searched_run k seed used word f n g r) rest c z → outcome_after (searched_run k seed used word f n g r) rest ≡ Some o → CourseOf k seed word a z o
by_found k seed used word f n g [] a b c z o (Err e) first second same is =
    one_end k seed word a z o (Fails (fault.Check e)) is (subst (λ (x : Links). CourseOf k seed word a x (Fails (fault.Check e))) (sym same) (inr (lesser n.0 n.1, searched k seed word a b c n (Err e) first second)))
by_found k seed used word f n g [] a b c z o (Ok both) first second same is =
    let q : Query = query k seed used word f n in
    let keys : FolderKeys = folder_keys k in
    let lists : Lists keys (sought_columns k word) (lesser n.0 n.1) both.0 both.1 (answer_by keys q both.0 both.1) =
    subst (λ (columns : List ℕ). Lists keys columns (lesser n.0 n.1) both.0 both.1 (answer_by keys q both.0 both.1)) (columns_are (once k seed used word f) word (lesser n.0 n.1)) (lists_answer keys q both.0 both.1) in
    one_end k seed word a z o (Accepted (answer_by keys q both.0 both.1)) is
    (subst (λ (x : Links). CourseOf k seed word a x (Accepted (answer_by keys q both.0 both.1))) (sym same) (both, lesser n.0 n.1, searched k seed word a b c n (Ok both) first second, lists))
by_found k seed used word f n g (h ∷ rest) a b c z o (Err e) first second went is = absurd went.1
by_found k seed used word f n g (h ∷ rest) a b c z o (Ok both) first second went is = absurd went.1

found_as : (k : KeptState) (seed : List ℕ) (used : ℕ) (word f : List ℕ) (n : ℕ × ℕ) (lead follow : List ℕ)
    → first_fault_of (folder_keys k) (sought_columns k word) (lesser n.0 n.1) k.seen (ask_of k 2) (ask_of k 3) lead follow ≡ first_fault_of (folder_keys k) (asked_columns (query k seed used word f n)) (lesser n.0 n.1) k.seen (ask_of k 2) (ask_of k 3) lead follow
found_as k seed used word f n lead follow =
    ap (λ (columns : List ℕ). first_fault_of (folder_keys k) columns (lesser n.0 n.1) k.seen (ask_of k 2) (ask_of k 3) lead follow) (sym (columns_are (once k seed used word f) word (lesser n.0 n.1)))

-- where the lengths were checked
by_lengths : (k : KeptState) (seed : List ℕ) (used : ℕ) (word f : List ℕ) (rest : List (List ℕ)) (a b z : Links) (o : Outcome) (r : Result (ℕ × ℕ) CheckFault)
    → Lengths a.lead b.lead a.follow b.follow k r → ExchangedInTurn (measured k seed used word f r) rest b z → outcome_after (measured k seed used word f r) rest ≡ Some o → CourseOf k seed word a z o
by_lengths k seed used word f [] a b z o (Err e) first same is =
    one_end k seed word a z o (Fails (fault.Check e)) is (subst (λ (x : Links). CourseOf k seed word a x (Fails (fault.Check e))) (sym same) (inl first))
by_lengths k seed used word f (g ∷ rest) a b z o (Err e) first went is = absurd went.1
by_lengths k seed used word f [] a b z o (Ok n) first same is = absurd (cc)
by_lengths k seed used word f (g ∷ []) a b z o (Ok n) first went is = absurd (cc)
by_lengths k seed used word f (g ∷ h ∷ rest) a b z o (Ok n) first (m, (ask, same), (c, (other, ask'), more)) is =
    by_found k seed used word f n g rest a b c z o (first_fault_of (folder_keys k) (asked_columns (query k seed used word f n)) (lesser n.0 n.1) k.seen (ask_of k 2) (ask_of k 3) g h) first
    (both_asked b m c (searching k 2 (lesser n.0 n.1) (sought_of k seed word).lead) (searching k 3 (lesser n.0 n.1) (sought_of k seed word).follow) g h
    (first_fault_of (folder_keys k) (sought_columns k word) (lesser n.0 n.1) k.seen (ask_of k 2) (ask_of k 3)) (first_fault_of (folder_keys k) (asked_columns (query k seed used word f n)) (lesser n.0 n.1) k.seen (ask_of k 2) (ask_of k 3) g h)
    ask same other ask' (found_as k seed used word f n g h))
    more is

-- the course of a search, by the frames that came
pub course : (k : KeptState) (seed : List ℕ) (used : ℕ) (word : List ℕ) (frames : List (List ℕ)) (a z : Links) (o : Outcome) → ExchangedInTurn (start k seed used word) frames a z → ended_of (start k seed used word) frames ≡ Some o → CourseOf k seed word a z o
course k seed used word [] a z o went is = no_ends k seed word a z o is
course k seed used word (f ∷ []) a z o went is = no_ends k seed word a z o is
course k seed used word (f ∷ g ∷ rest) a z o (m, (ask, same), (b, (other, ask'), more)) is =
    by_lengths k seed used word f rest a b z o (lengths_of k.seen (ask_of k 0) (ask_of k 1) f g)
    (both_asked a m b (step_request k 0 Latest) (step_request k 1 Latest) f g (lengths_of k.seen (ask_of k 0) (ask_of k 1)) (lengths_of k.seen (ask_of k 0) (ask_of k 1) f g) ask same other ask' refl)
    more is
