-- What a command came to that ended well, by how it began, and how far it has seen then.
use Rattle.std.proofs.Common.{◌≡◌, ℕ, ◌≤◌, List, [], ◌∷◌, None, Some, Result, Ok, Err, refl, ap, sym, ◌∙◌, subst, arith}
use Rattle.std.specs.Prelude.{nat_lt, if◌then◌else◌, Bool, true, false}
use Rattle.std.proofs.lemmas.Bool.{ltb-true}
use Rattle.dory_base.specs.declared.entry.Entry.{Entry}
use Rattle.dory_base.specs.declared.entry.Change.{Change}
use Rattle.dory_base.specs.declared.entry.Change.TheVariants as change
use Rattle.dory_base.specs.declared.ids.DocId.{DocId}
use Rattle.dory_base.specs.declared.ids.FolderId.{FolderId}
use Rattle.dory_verify.specs.declared.answer.Answer.{Answer}
use Rattle.dory_verify.specs.declared.fault.CheckFault.{CheckFault}
use Rattle.dory_verify.specs.Checks.{lengths_of}
use Rattle.dory_state.specs.declared.kept.KeptState.{KeptState}
use Rattle.dory_member.specs.declared.command.Command.{Command}
use Rattle.dory_member.specs.declared.outcome.Fault.{Fault}
use Rattle.dory_member.specs.declared.outcome.Fault.TheVariants as fault
use Rattle.dory_member.specs.declared.outcome.Outcome.{Outcome}
use Rattle.dory_member.specs.declared.outcome.Outcome.TheVariants.{Accepted, Lengths, Failed}
use Rattle.dory_member.specs.declared.phase.Phase.{Phase}
use Rattle.dory_member.specs.declared.phase.Phase.TheVariants.{Updating, Measuring, Ended}
use Rattle.dory_member.specs.declared.phase.Run.{Run}
use Rattle.dory_member.specs.declared.phase.UpdateStep.TheVariants.{StageFollow}
use Rattle.dory_member.specs.Course.{after_lengths, asking, asks, ended_of, finished, greater, kept_at, moved, name, outcome_at, run_after, took, updated}
use Rattle.dory_drive.specs.Scene.{Scene}
use Rattle.dory_drive.specs.Way.{Links}
use Rattle.dory_client.specs.CallEffects.{Confirms}
use Rattle.dory_client.specs.CommandEnds.{IsGood}
use Rattle.dory_client.specs.Sought.{sought_of}
use Rattle.dory_client.specs.Way.{ExchangedInTurn, RunExchanged}
use Rattle.dory_client.proofs.Beginnings.{IsBeginning, Kind, Updates, Searches, Measures, Rests}
use Rattle.dory_client.proofs.Course.{Answered, Failed as SearchFailed}
use Rattle.dory_client.proofs.Right.{answered_fresh}
use Rattle.dory_client.proofs.Searches.{CourseOf, course, start}
use Rattle.dory_client.proofs.Updates.{AtEnd, FollowHas, LeadHas, update_ended}
use Rattle.dory_client.proofs.Updates as update
use Rattle.dory_client.proofs.WayLaws.{no_frames}

-- ---- what is kept at the end

-- what is kept at the end of a run that goes on from a phase
kept_from : (r : Run) (k : KeptState) (frames : List (List ℕ)) (m z : Links) (o : Outcome) (p : Phase) → r.phase ≡ p → r.kept ≡ kept_at k p → ExchangedInTurn r frames m z → ended_of r frames ≡ Some o → (run_after r frames).kept.seen ≡ (finished k o).seen
kept_from r k [] m z o (Ended x) is i went ends =
    let at : outcome_at r.phase ≡ Some x = ap outcome_at is in
    let same : x ≡ o = cc in
    ap (λ (s : KeptState). s.seen) i ∙ ap (λ (y : Outcome). (finished k y).seen) same
kept_from r k [] m z o _ is i went ends = absurd (let none : outcome_at r.phase ≡ None = ap outcome_at is in cc)
kept_from r k (g ∷ frames) m z o (Ended x) is i (n, turned, more) ends = absurd (subst (λ (p : Phase). RunExchanged r (asks p) m n g) is turned)
kept_from r k (g ∷ frames) m z o _ is i (n, turned, more) ends = kept_from (took r g) k frames n z o (took r g).phase refl (ap (λ (s : KeptState). kept_at s (took r g).phase) i) more ends

-- a run that isn't at its end when it begins keeps what its outcome comes to
pub kept_last : (run : Run) (frames : List (List ℕ)) (a z : Links) (o : Outcome) → outcome_at run.phase ≡ None → ExchangedInTurn run frames a z → ended_of run frames ≡ Some o → (run_after run frames).kept.seen ≡ (finished run.kept o).seen
kept_last run [] a z o going went ends = absurd (cc)
kept_last run (f ∷ frames) a z o going (m, turned, more) ends = kept_from (took run f) run.kept frames m z o (took run f).phase refl refl more ends

-- ---- a search

-- the course of a search that a run of it came by
pub searched : (k : KeptState) (seed word : List ℕ) (run : Run) (frames : List (List ℕ)) (a z : Links) (o : Outcome) → run ≡ start k seed k.used word → ExchangedInTurn run frames a z → ended_of run frames ≡ Some o → CourseOf k seed word a z o
searched k seed word run frames a z o is went ended =
    course k seed k.used word frames a z o (subst (λ (r : Run). ExchangedInTurn r frames a z) is went) (subst (λ (r : Run). ended_of r frames ≡ Some o) is ended)

pub answered : (k : KeptState) (seed word : List ℕ) (a z : Links) (o : Outcome) → CourseOf k seed word a z o → IsGood o → (answer : Answer) × (o ≡ Accepted answer) × Answered a.lead z.lead a.follow z.follow k (sought_of k seed word) answer
answered k seed word a z (Accepted answer) so good = (answer, refl, so)
answered k seed word a z (Failed f) so good = absurd (good f refl)
answered k seed word a z _ so good = absurd so

pub search_failed : (k : KeptState) (seed word : List ℕ) (a z : Links) (f : Fault) → CourseOf k seed word a z (Failed f) → (c : CheckFault) × (f ≡ fault.Check c) × SearchFailed a.lead z.lead a.follow z.follow k (sought_of k seed word) c
search_failed k seed word a z (fault.Check c) so = (c, refl, so)
search_failed k seed word a z _ so = absurd so

-- ---- the two lengths

-- they are told, or a check failed
abbrev IsMeasured : Outcome → Type 0
IsMeasured o = IsGood o → (n : ℕ × ℕ) × (seen : ℕ) × (o ≡ Lengths n.0 n.1 seen)

measured_by : (run : Run) (r : Result (ℕ × ℕ) CheckFault) (frames : List (List ℕ)) (a z : Links) (o : Outcome) → ExchangedInTurn (moved run (after_lengths run None r)) frames a z → outcome_at (run_after (moved run (after_lengths run None r)) frames).phase ≡ Some o → IsMeasured o
measured_by run (Err f) [] a z o went is = λ good. absurd (good (fault.Check f) cc)
measured_by run (Ok n) [] a z o went is = λ good. (n, run.kept.seen, cc)
measured_by run (Err f) (g ∷ frames) a z o went is = absurd went.1
measured_by run (Ok n) (g ∷ frames) a z o went is = absurd went.1

measured : (k : KeptState) (seed : List ℕ) (used : ℕ) (frames : List (List ℕ)) (a z : Links) (o : Outcome) → ExchangedInTurn (asking k seed used (Measuring None None)) frames a z → ended_of (asking k seed used (Measuring None None)) frames ≡ Some o → IsMeasured o
measured k seed used [] a z o went is = absurd (cc)
measured k seed used (f ∷ []) a z o went is = absurd (cc)
measured k seed used (f ∷ g ∷ frames) a z o (m, first, (n, second, more)) is =
    measured_by (took (asking k seed used (Measuring None None)) f) (lengths_of k.seen (name (asking k seed used (Measuring None None)) 0) (name (asking k seed used (Measuring None None)) 1) f g) frames n z o more is

-- ---- any command

-- what was to be confirmed of an update is nothing
abbrev IsNoUpdate : Run → Type 0
IsNoUpdate run = (folder : ℕ) (a z : Scene) → Confirms folder run.phase a z

pub data CameTo (k : KeptState) (seed : List ℕ) (run : Run) (a z : Links) (o : Outcome) (seen : ℕ) : Type 0 where
  -- an update stands at a number in both histories
  Stands : (e : Entry) (number : ℕ) → run.phase ≡ Updating e StageFollow → o ≡ updated e.change e.doc number → LeadHas k.folder.0 a z number e.id → FollowHas k.folder.0 a z number e.id → seen ≡ greater k.seen number → CameTo k seed run a z o seen
  -- a search was answered
  Answers : (word : List ℕ) (answer : Answer) → IsNoUpdate run → Answered a.lead z.lead a.follow z.follow k (sought_of k seed word) answer → seen ≡ answer.version → CameTo k seed run a z o seen
  -- nothing further was seen
  Stays : IsNoUpdate run → seen ≡ k.seen → CameTo k seed run a z o seen

updated_seen : (k : KeptState) (c : Change) (doc : DocId) (number : ℕ) → (finished k (updated c doc number)).seen ≡ greater k.seen number
updated_seen k (change.Post shape row tags) doc number = refl
updated_seen k change.Remove doc number = refl

pub came_to : (k : KeptState) (seed : List ℕ) (c : Command) (run : Run) (frames : List (List ℕ)) (a z : Links) (o : Outcome) → IsBeginning k seed c run → ExchangedInTurn run frames a z → ended_of run frames ≡ Some o → IsGood o → CameTo k seed run a z o (run_after run frames).kept.seen
came_to k seed c run frames a z o b went ended good = by b.kind
  where
    last : outcome_at run.phase ≡ None → (run_after run frames).kept.seen ≡ (finished run.kept o).seen
    last going = kept_last run frames a z o going went ended

    stands : (e : Entry) → run.phase ≡ Updating e StageFollow → AtEnd run.kept.folder.0 a z e o → CameTo k seed run a z o (run_after run frames).kept.seen
    stands e is (update.Falls f failed) = absurd (good f failed)
    stands e is (update.Stands number named lead follow) =
        Stands e number is named (subst (λ (f : FolderId). LeadHas f.0 a z number e.id) b.folder lead) (subst (λ (f : FolderId). FollowHas f.0 a z number e.id) b.folder follow)
        (last (ap outcome_at is) ∙ ap (λ (x : Outcome). (finished run.kept x).seen) named ∙ updated_seen run.kept e.change e.doc number ∙ ap (λ (s : ℕ). greater s number) b.seen)

    by : Kind k seed c run → CameTo k seed run a z o (run_after run frames).kept.seen
    by (Updates e is) = stands e is (update_ended run e frames a z o is went ended).0
    by (Searches word named is) =
        let got = answered k seed word a z o (searched k seed word run frames a z o is went ended) good in
        Answers word got.0 (λ folder y x. subst (λ (r : Run). Confirms folder r.phase y x) (sym is) tt) got.2 (last (ap (λ (r : Run). outcome_at r.phase) is) ∙ ap (λ (x : Outcome). (finished run.kept x).seen) got.1)
    by (Measures named is) =
        let got = measured k seed k.used frames a z o (subst (λ (r : Run). ExchangedInTurn r frames a z) is went) (subst (λ (r : Run). ended_of r frames ≡ Some o) is ended) good in
        Stays (λ folder y x. subst (λ (r : Run). Confirms folder r.phase y x) (sym is) tt) (last (ap (λ (r : Run). outcome_at r.phase) is) ∙ ap (λ (x : Outcome). (finished run.kept x).seen) got.2 ∙ b.seen)
    by (Rests x well is) =
        let none : frames ≡ [] = no_frames run frames a z (ap asks is) went in
        Stays (λ folder y x. subst (λ (p : Phase). Confirms folder p y x) (sym is) tt) (ap (λ (fs : List (List ℕ)). (run_after run fs).kept.seen) none ∙ b.seen)

le_greater : (b : Bool) (m n : ℕ) → nat_lt m n ≡ b → m ≤ (if b then n else m)
le_greater true m n e = omega (arith, ltb-true m n e)
le_greater false m n e = omega arith

-- no state has seen less than the one before
pub rises : (k : KeptState) (seed : List ℕ) (run : Run) (a z : Links) (o : Outcome) (seen : ℕ) → CameTo k seed run a z o seen → k.seen ≤ seen
rises k seed run a z o seen (Stands e number is named lead follow last) = subst (λ (n : ℕ). k.seen ≤ n) (sym last) (le_greater (nat_lt k.seen number) k.seen number refl)
rises k seed run a z o seen (Answers word answer none so last) = subst (λ (n : ℕ). k.seen ≤ n) (sym last) (answered_fresh a.lead z.lead a.follow z.follow k seed word answer so)
rises k seed run a z o seen (Stays none last) = omega (arith, last)
