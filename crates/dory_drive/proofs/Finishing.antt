-- How the parts of a drive make the whole of it.
use Rattle.std.proofs.Common.{◌≡◌, ℕ, Bool, true, false, List, [], ◌∷◌, Option, None, Some, Result, Ok, Err, refl, ap, sym, ◌∙◌, subst, inl, inr}
use Rattle.std.specs.Prelude.{◌⊎◌}
use Rattle.dory_member.specs.Course.{Put}
use Rattle.dory_drive.specs.declared.broken.Broken.{Broken}
use Rattle.dory_drive.specs.Course.{Course, IsCourse, ended_at, is_asking, run_after}
use Rattle.dory_drive.specs.Driven.{AskFailed, Closes, ComesTo, Driven, ExchangedBetween, FirstSaveFailed, Finished, LastSaveFailed, RanOut, RanOutAt, RunEnds, SaveDone, SaveFailed, StandsAt}
use Rattle.dory_drive.specs.Ends.{IsSaveEnd}
use Rattle.dory_drive.specs.Kept.{KeepsIf, KeepsNow, OldOrNew}
use Rattle.dory_drive.specs.Scene.{Faults, OnlyKeeper, OnlyLinks, OnlyOutput, Scene, scene}
use Rattle.dory_drive.specs.Way.{ExchangedInTurn, InterruptedAfter, Links, PutAnswered, scene_links}
use Rattle.dory_drive.proofs.Keeping.{Told, if_stays, now_again, now_stays, stays_if, stays_twice}

-- ---- a run that asks nothing, and one that keeps nothing new

pub no_frames : {R O : Type 0} (c : Course R O) (run : R) (frames : List (List ℕ)) (a z : Links) → c.asks run ≡ None → ExchangedInTurn c run frames a z → frames ≡ []
no_frames c run [] a z none went = refl
no_frames c run (f ∷ frames) a z none (m, turned, more) = absurd (subst (λ (o : Option Put). PutAnswered o a m f) none turned)

going : {R O : Type 0} (c : Course R O) → IsCourse c → (run : R) (frame : List ℕ) (a z : Links) → PutAnswered (c.asks run) a z frame → c.saves_last run ≡ false
going c law run frame a z turned = by (c.saves_last run) refl
  where
    by : (u : Bool) → c.saves_last run ≡ u → c.saves_last run ≡ false
    by true e = absurd (subst (λ (o : Option Put). PutAnswered o a z frame) (law.last run e) turned)
    by false e = e

-- what is kept stays until an end that keeps something new
pub kept_on : {R O : Type 0} (c : Course R O) → IsCourse c → (run : R) (frames : List (List ℕ)) (a z : Links) → ExchangedInTurn c run frames a z → c.saves_last (run_after c run frames) ≡ false → c.kept (run_after c run frames) ≡ c.kept run
kept_on c law run [] a z went h = refl
kept_on c law run (f ∷ []) a z went h = law.keeps run f h
kept_on c law run (f ∷ g ∷ frames) a z (m, turned, (n, next, more)) h =
    kept_on c law (c.took run f) (g ∷ frames) m z (n, next, more) h ∙ law.keeps run f (going c law (c.took run f) g m n next)

-- a run that doesn't save at first comes to nothing
pub idle : {R O : Type 0} (c : Course R O) → IsCourse c → (run : R) (frames : List (List ℕ)) (l m : Links) → ExchangedInTurn c run frames l m → c.saves_first run ≡ false → c.saves_last (run_after c run frames) ≡ false
idle c law run frames l m went e =
    let none : frames ≡ [] = no_frames c run frames l m (law.idle run e).0 went in
    ap (λ (fs : List (List ℕ)). c.saves_last (run_after c run fs)) none ∙ (law.idle run e).1

-- the last state is kept, by what was kept first
keeps_last : {R O : Type 0} (c : Course R O) → IsCourse c → (run : R) (frames : List (List ℕ)) (l m : Links) (a b d : Told) → ExchangedInTurn c run frames l m → KeepsIf (c.saves_first run) a b (c.kept run)
    → KeepsIf (c.saves_last (run_after c run frames)) b d (c.kept (run_after c run frames)) → KeepsIf (c.saves_first run) a d (c.kept (run_after c run frames))
keeps_last c law run frames l m a b d went first last = by (c.saves_first run) refl (c.saves_last (run_after c run frames)) refl first last
  where
    by : (u : Bool) → c.saves_first run ≡ u → (v : Bool) → c.saves_last (run_after c run frames) ≡ v → KeepsIf u a b (c.kept run) → KeepsIf v b d (c.kept (run_after c run frames)) → KeepsIf u a d (c.kept (run_after c run frames))
    by true e true i p q = now_again a b d (c.kept run) (c.kept (run_after c run frames)) p q
    by true e false i p q = subst (KeepsNow a d) (sym (kept_on c law run frames l m went i)) (now_stays a b d (c.kept run) p q)
    by false e true i p q = absurd (let still : c.saves_last (run_after c run frames) ≡ false = idle c law run frames l m went e in cc)
    by false e false i p q = stays_twice a b d p q

-- the last save failed, by what was kept first
keeps_either : {R O : Type 0} (c : Course R O) → IsCourse c → (run : R) (frames : List (List ℕ)) (l m : Links) (a b d : Told) → ExchangedInTurn c run frames l m → c.saves_last (run_after c run frames) ≡ true → KeepsIf (c.saves_first run) a b (c.kept run)
    → OldOrNew b d (c.kept (run_after c run frames)) → KeepsNow a d (c.kept run) ⊎ KeepsNow a d (c.kept (run_after c run frames))
keeps_either c law run frames l m a b d went saving first last = by (c.saves_first run) refl first last
  where
    by : (u : Bool) → c.saves_first run ≡ u → KeepsIf u a b (c.kept run) → OldOrNew b d (c.kept (run_after c run frames)) → KeepsNow a d (c.kept run) ⊎ KeepsNow a d (c.kept (run_after c run frames))
    by true e p (inl stays) = inl (now_stays a b d (c.kept run) p stays)
    by true e p (inr now) = inr (now_again a b d (c.kept run) (c.kept (run_after c run frames)) p now)
    by false e p q = absurd (let still : c.saves_last (run_after c run frames) ≡ false = idle c law run frames l m went e in cc)

-- ---- a drive, by how far it came

same_links : (a s : Scene) → OnlyKeeper a s → scene_links s ≡ scene_links a
same_links a s only = ap scene_links only

asked_nothing : (a s : Scene) → OnlyKeeper a s → (s.lead ≡ a.lead) × (s.follow ≡ a.follow)
asked_nothing a s only = (ap (λ (x : Scene). x.lead) only, ap (λ (x : Scene). x.follow) only)

pub first_failed : {R O : Type 0} (c : Course R O) (run : R) (a s : Scene) (end : Broken) → OnlyKeeper a s → OldOrNew a.kept s.kept (c.kept run) → IsSaveEnd end → RunEnds c run a s (Err end)
first_failed c run a s end only kept is = FirstSaveFailed (asked_nothing a s only) kept is

-- what was kept first stays while it asks
kept_through : {R O : Type 0} (c : Course R O) (run : R) (u : Bool) (a s t : Scene) → u ≡ c.saves_first run → KeepsIf u a.kept s.kept (c.kept run) → OnlyLinks s t → KeepsIf (c.saves_first run) a.kept t.kept (c.kept run)
kept_through c run u a s t e kept only =
    subst (λ (k : Told). KeepsIf (c.saves_first run) a.kept k (c.kept run)) (sym only.kept) (subst (λ (v : Bool). KeepsIf v a.kept s.kept (c.kept run)) e kept)

pub ask_failed : {R O : Type 0} (c : Course R O) (run began : R) (u : Bool) (a s t : Scene) (end : Broken) → u ≡ c.saves_first run → OnlyKeeper a s → KeepsIf u a.kept s.kept (c.kept run) → OnlyLinks s t → began ≡ run
    → InterruptedAfter c began (scene_links s) (scene_links t) end → RunEnds c run a t (Err end)
ask_failed c run began u a s t end e only kept others here broke =
    AskFailed (subst (λ (r : _). InterruptedAfter c r (scene_links a) (scene_links t) end) here (subst (λ (l : Links). InterruptedAfter c began l (scene_links t) end) (same_links a s only) broke))
    (kept_through c run u a s t e kept others)

-- what it went through, from the first moment to the last
driven_from : {R O : Type 0} (c : Course R O) (run began at : R) (u : Bool) (a s t : Scene) → OnlyKeeper a s → began ≡ run → Driven c began (scene_links s) (scene_links t) at u → Driven c run (scene_links a) (scene_links t) at u
driven_from c run began at u a s t only here driven =
    subst (λ (r : _). Driven c r (scene_links a) (scene_links t) at u) here (subst (λ (l : Links). Driven c began l (scene_links t) at u) (same_links a s only) driven)

-- its last save failed
last_failed : {R O : Type 0} (c : Course R O) → IsCourse c → (run at : R) (u : Bool) (a t z : Scene) (end : Broken) → KeepsIf (c.saves_first run) a.kept t.kept (c.kept run) → Driven c run (scene_links a) (scene_links t) at u
    → OnlyKeeper t z → u ≡ true → OldOrNew t.kept z.kept (c.kept at) → IsSaveEnd end → RunEnds c run a z (Err end)
last_failed c law run at u a t z end first driven only due kept is = by driven.goes.stands
  where
    went : ExchangedBetween c run driven.goes.frames a z
    went = subst (λ (l : Links). ExchangedInTurn c run driven.goes.frames (scene_links a) l) (sym (same_links t z only)) driven.goes.went

    by : StandsAt c run at u driven.goes.frames ⊎ (RanOutAt c run at driven.goes.frames × (u ≡ false)) → RunEnds c run a z (Err end)
    by (inl (here, inl (none, e))) = absurd (cc)
    by (inl (here, inr e)) =
        let saving : c.saves_last (run_after c run driven.goes.frames) ≡ true = sym (ap c.saves_last here) ∙ sym e ∙ due in
        LastSaveFailed driven.goes.frames went saving
        (keeps_either c law run driven.goes.frames (scene_links a) (scene_links t) a.kept t.kept z.kept driven.goes.went saving first (subst (λ (r : _). OldOrNew t.kept z.kept (c.kept r)) here kept)) is
    by (inr (out, e)) = absurd (cc)

-- and where it didn't, its outcome is handed back
finished : {R O : Type 0} (c : Course R O) → IsCourse c → (run at : R) (u : Bool) (a t z : Scene) (outcome : O) → KeepsIf (c.saves_first run) a.kept t.kept (c.kept run) → Driven c run (scene_links a) (scene_links t) at u
    → OnlyKeeper t z → KeepsIf u t.kept z.kept (c.kept at) → c.ended at ≡ Some outcome → RunEnds c run a z (Ok outcome)
finished c law run at u a t z outcome first driven only kept ended = by driven.goes.stands
  where
    frames : List (List ℕ)
    frames = driven.goes.frames

    went : ExchangedBetween c run frames a z
    went = subst (λ (l : Links). ExchangedInTurn c run frames (scene_links a) l) (sym (same_links t z only)) driven.goes.went

    stays : u ≡ false → KeepsIf (c.saves_first run) a.kept z.kept (c.kept run)
    stays e = if_stays (c.saves_first run) a.kept t.kept z.kept (c.kept run) first (stays_if u t.kept z.kept (c.kept at) e kept)

    by : StandsAt c run at u frames ⊎ (RanOutAt c run at frames × (u ≡ false)) → RunEnds c run a z (Ok outcome)
    by (inl (here, inl (none, e))) =
        let back : run_after c run frames ≡ run = ap (run_after c run) none in
        Finished frames went (sym (ap c.ended here) ∙ ended) (subst (λ (r : _). KeepsIf (c.saves_first run) a.kept z.kept (c.kept r)) (sym back) (stays e))
    by (inl (here, inr e)) =
        Finished frames went (sym (ap c.ended here) ∙ ended)
        (keeps_last c law run frames (scene_links a) (scene_links t) a.kept t.kept z.kept driven.goes.went first
        (subst (λ (v : Bool). KeepsIf v t.kept z.kept (c.kept (run_after c run frames))) (e ∙ ap c.saves_last here) (subst (λ (r : _). KeepsIf u t.kept z.kept (c.kept r)) here kept)))
    by (inr (out, e)) =
        RanOut out.earlier out.frame (subst (λ (fs : List (List ℕ)). ExchangedBetween c run fs a z) out.all went) (sym (ap c.ended out.lost) ∙ ended) (stays e)

handed_at : {R O : Type 0} (c : Course R O) (run : R) (u : Bool) (outcome : O) → u ≡ false → Some outcome ≡ ended_at c run u → c.ended run ≡ Some outcome
handed_at c run true outcome e is = absurd (cc)
handed_at c run false outcome e is = sym is

-- a conversation that waits for no save hands its outcome back
pub closes_well : {R O : Type 0} (c : Course R O) (run at : R) (u w : Bool) (a z : Scene) (outcome : O) → KeepsIf u a.kept z.kept (c.kept run) → at ≡ run → w ≡ false → Some outcome ≡ ended_at c at w → Closes c run u a z (Ok outcome)
closes_well c run at u w a z outcome kept same quiet is = SaveDone outcome (sym (ap c.ended same) ∙ handed_at c at w outcome quiet is) kept refl

asks_by : (o : Option Put) (u : Bool) → u ≡ false → is_asking o u ≡ false → o ≡ None
asks_by None u e h = refl
asks_by (Some put) true e h = absurd (cc)
asks_by (Some put) false e h = absurd (cc)

-- a conversation that was driven asks nothing more
pub asks_nothing : {R O : Type 0} (c : Course R O) → IsCourse c → (run at : R) (u : Bool) (a t : Links) → Driven c run a t at u → c.asks at ≡ None
asks_nothing c law run at u a t driven = by driven.goes.stands
  where
    quiet : u ≡ false → c.asks at ≡ None
    quiet e = asks_by (c.asks at) u e driven.still

    last : (v : Bool) → c.saves_last at ≡ v → u ≡ c.saves_last at → c.asks at ≡ None
    last true i e = law.last at i
    last false i e = quiet (e ∙ i)

    by : StandsAt c run at u driven.goes.frames ⊎ (RanOutAt c run at driven.goes.frames × (u ≡ false)) → c.asks at ≡ None
    by (inl (here, inl (none, e))) = quiet e
    by (inl (here, inr e)) = last (c.saves_last at) refl e
    by (inr (out, e)) = quiet e

-- ---- the drive's own moments: after its first save, after its asks and after its last save

closed : {R O : Type 0} (c : Course R O) → IsCourse c → (run at : R) (u : Bool) (a t z : Scene) (result : Result O Broken) → KeepsIf (c.saves_first run) a.kept t.kept (c.kept run) → Driven c run (scene_links a) (scene_links t) at u
    → OnlyKeeper t z → Closes c at u t z result → RunEnds c run a z result
closed c law run at u a t z result first driven last (SaveFailed end due either is e) =
    subst (RunEnds c run a z) (sym e) (last_failed c law run at u a t z end first driven last due either is)
closed c law run at u a t z result first driven last (SaveDone outcome ended kept e) =
    subst (RunEnds c run a z) (sym e) (finished c law run at u a t z outcome first driven last kept ended)

pub ends_closed : {R O : Type 0} (c : Course R O) → IsCourse c → (run began at : R) (u v : Bool) (a s t z : Scene) (result : Result O Broken) → u ≡ c.saves_first run → OnlyKeeper a s → KeepsIf u a.kept s.kept (c.kept run) → began ≡ run → OnlyLinks s t
    → Driven c began (scene_links s) (scene_links t) at v → OnlyKeeper t z → Closes c at v t z result → RunEnds c run a z result
ends_closed c law run began at u v a s t z result e first kept here others driven last closes =
    closed c law run at v a t z result (kept_through c run u a s t e kept others) (driven_from c run began at v a s t first here driven) last closes

-- ---- what is written later

later_by : {R O : Type 0} (c : Course R O) (run : R) (a t : Scene) (written : Option (List ℕ)) (failed : Faults) (outcome : O) → ComesTo c run a t outcome → ComesTo c run a (scene t.kept t.lead t.follow written failed) outcome
later_by c run a t written failed outcome (RanOut earlier frame went is kept) = RanOut earlier frame went is kept
later_by c run a t written failed outcome (Finished frames went is kept) = Finished frames went is kept

-- what is written after a drive changes nothing of how it went
pub written_after : {R O : Type 0} (c : Course R O) (run : R) (a t z : Scene) (outcome : O) → OnlyOutput t z → ComesTo c run a t outcome → ComesTo c run a z outcome
written_after c run a t z outcome only comes = subst (λ (s : Scene). ComesTo c run a s outcome) (sym only) (later_by c run a t z.written (record t.faults { output = z.faults.output }) outcome comes)
