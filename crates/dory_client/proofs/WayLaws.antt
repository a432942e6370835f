-- A run that asks nothing exchanges nothing, and one that got stuck did so at a link.
use Rattle.std.proofs.Common.{◌≡◌, ℕ, true, false, List, [], ◌∷◌, Option, None, Some, refl, ap, subst}
use Rattle.dory_base.specs.declared.ids.Side.{Side}
use Rattle.dory_member.specs.declared.outcome.Fault.TheVariants as fault
use Rattle.dory_member.specs.declared.outcome.Outcome.{Outcome}
use Rattle.dory_member.specs.declared.outcome.Outcome.TheVariants.{Failed}
use Rattle.dory_member.specs.declared.phase.Phase.{Phase}
use Rattle.dory_member.specs.declared.phase.Phase.TheVariants.{Ended}
use Rattle.dory_member.specs.declared.phase.Run.{Run}
use Rattle.dory_member.specs.Course.{Put, asks, fails, outcome_at, run_after, took}
use Rattle.dory_member.specs.Machine.{keeps, saves_first, saves_last}
use Rattle.dory_drive.specs.declared.broken.Broken.{Broken}
use Rattle.dory_drive.specs.Course.{run_after as driven_run}
use Rattle.dory_drive.specs.Ends.{IsAskEnd}
use Rattle.dory_drive.specs.Member.{member_course, put_of}
use Rattle.dory_drive.specs.Scene.{AskedNothing, Scene}
use Rattle.dory_drive.specs.Way.{InterruptedAfter, Links, PutUnanswered, scene_links}
use Rattle.dory_drive.proofs.Finishing as driven
use Rattle.dory_client.specs.CommandEnds.{ExchangedBetween, IsGood}
use Rattle.dory_client.specs.Way.{ExchangedInTurn}

-- a member's run is that of its course
pub same_run : (run : Run) (frames : List (List ℕ)) → driven_run member_course run frames ≡ run_after run frames
same_run run [] = refl
same_run run (f ∷ frames) = same_run (took run f) frames

-- a run that doesn't save at first asks nothing
pub asks_none : (p : Phase) → saves_first p ≡ false → asks p ≡ None
asks_none (Ended o) h = refl
asks_none _ h = absurd (cc)

-- a run that has ended asks nothing
pub at_end : (p : Phase) (o : Outcome) → outcome_at p ≡ Some o → asks p ≡ None
at_end (Ended x) o is = refl
at_end _ o is = absurd (cc)

-- a run that saves something new has ended well
pub saved : (p : Phase) → saves_last p ≡ true → (o : Outcome) × (outcome_at p ≡ Some o) × IsGood o
saved (Ended o) h = (o, refl, λ f is. let not : keeps (Failed f) ≡ true = subst (λ (x : Outcome). keeps x ≡ true) is h in absurd (cc))
saved _ h = absurd (cc)

pub no_frames : (run : Run) (frames : List (List ℕ)) (a z : Links) → asks run.phase ≡ None → ExchangedInTurn run frames a z → frames ≡ []
no_frames run frames a z none went = driven.no_frames member_course run frames a z (ap (put_of run) none) went

pub none_asked : (run : Run) (frames : List (List ℕ)) (a z : Scene) → asks run.phase ≡ None → ExchangedBetween run frames a z → AskedNothing a z
none_asked run frames a z none went =
    let same : scene_links z ≡ scene_links a = subst (λ (fs : List (List ℕ)). ExchangedInTurn run fs (scene_links a) (scene_links z)) (no_frames run frames (scene_links a) (scene_links z) none went) went in
    (ap (λ (l : Links). l.lead) same, ap (λ (l : Links). l.follow) same)

-- a run that got stuck asked something from the beginning
pub stuck_asks : (run : Run) (a z : Links) (b : Broken) → InterruptedAfter member_course run a z b → asks run.phase ≡ None → ⊥
stuck_asks run a z b broke none =
    let first : broke.frames ≡ [] = no_frames run broke.frames a broke.between none broke.went in
    subst (λ (o : Option Put). PutUnanswered o broke.between z b) (ap (put_of run) none) (subst (λ (fs : List (List ℕ)). PutUnanswered (member_course.asks (driven_run member_course run fs)) broke.between z b) first broke.stuck)

pub stuck_at : (o : Option Put) (m z : Links) (b : Broken) → PutUnanswered o m z b → (side : Side) × IsAskEnd side b
stuck_at None m z b stuck = absurd stuck
stuck_at (Some put) m z b stuck = (put.0, stuck.1)

-- what a run comes to that ran out of memory
pub lost_fails : (o : Outcome) → outcome_at (fails fault.NoMemory) ≡ Some o → o ≡ Failed fault.NoMemory
lost_fails o e = cc

pub lost_bad : {A : Type 0} (o : Outcome) → outcome_at (fails fault.NoMemory) ≡ Some o → IsGood o → A
lost_bad o e good = absurd (good fault.NoMemory (lost_fails o e))
