-- What is told of a run is told event by event, each at its moment.
use Rattle.std.proofs.Common.{◌≡◌, ℕ, zero, suc, ◌+◌, List, [], ◌∷◌, ap, ◌∙◌, refl, sym}
use Rattle.std.specs.Prelude.{Option, Some, None, slice_get}
use Rattle.dory_base.specs.declared.ids.MemberId.{MemberId}
use Rattle.dory_verify.specs.declared.answer.Answer.{Answer}
use Rattle.dory_member.specs.declared.outcome.Outcome.TheVariants.{Accepted}
use Rattle.dory_run.specs.declared.event.Event.{Event}
use Rattle.dory_run.specs.declared.event.Honest.{Honest}
use Rattle.dory_run.specs.declared.line.WorldLine.{WorldLine}
use Rattle.dory_run.specs.declared.line.WorldLine.TheVariants as line
use Rattle.dory_run.specs.declared.setup.Setup.{Setup}
use Rattle.dory_run.specs.Happening.{Happened, happens}
use Rattle.dory_run.specs.Law.{AcceptsRight}
use Rattle.dory_run.specs.Run.{Moment, beginning, moment_after, moment_by, moments_from, run_of, tells_by, telling_from, telling_of}
use Rattle.dory_run.specs.Start.{IsSetup}
use Rattle.dory_run.specs.World.{World}
use Rattle.dory_run.proofs.Every.{accepted}
use Rattle.dory_run.proofs.Lists.{all_get}
use Rattle.dory_world.specs.Plays.{AcceptsAt}

-- the line of a place is that of what happens there
pub record IsTold (h : Honest) (s : Setup) (moments : List Moment) (events : List Event) (place : ℕ) (told : WorldLine) : Type 0 where
  pub moment : Moment
  pub now : slice_get moments place ≡ Some moment
  pub event : Event
  pub comes : slice_get events place ≡ Some event
  pub happened : Happened
  pub allowed : happens h s moment.world event ≡ Some happened
  pub line : told ≡ happened.line

module _ (h : Honest) (s : Setup) where
  told_by : (k : ℕ) (x : Moment) (e : Event) (events : List Event) (o : Option Happened) → happens h s x.world e ≡ o
      → ((y : Moment) (place : ℕ) (told : WorldLine) → slice_get (telling_from (k + 1) h s y.world events).lines place ≡ Some told → IsTold h s (moments_from h s (Some y) events) events place told)
      → (place : ℕ) (told : WorldLine) → slice_get (tells_by k x.world (λ (v : World). telling_from (k + 1) h s v events) o).lines place ≡ Some told
      → IsTold h s (x ∷ moments_from h s (moment_by x e o) events) (e ∷ events) place told
  told_by k x e events None is rest place told at = absurd (cc)
  told_by k x e events (Some t) is rest zero told at = record { moment = x; now = refl; event = e; comes = refl; happened = t; allowed = is; line = cc }
  told_by k x e events (Some t) is rest (suc place) told at =
      let r = rest (moment_after x e t) place told at in
      record { moment = r.moment; now = r.now; event = r.event; comes = r.comes; happened = r.happened; allowed = r.allowed; line = r.line }

  pub told_from : (k : ℕ) (events : List Event) (x : Moment) (place : ℕ) (told : WorldLine) → slice_get (telling_from k h s x.world events).lines place ≡ Some told
      → IsTold h s (moments_from h s (Some x) events) events place told
  told_from k [] x place told at = absurd (cc)
  told_from k (e ∷ events) x place told at = told_by k x e events (happens h s x.world e) refl (told_from (k + 1) events) place told at

  -- each search that is told to have ended accepted is right
  pub accepts_at : (events : List Event) → IsSetup s → (place : ℕ) (m : MemberId) (answer : Answer)
      → slice_get (telling_of h s events).lines place ≡ Some (line.Ended m (Accepted answer)) → AcceptsAt h s events place m answer
  accepts_at events is place m answer at =
      let r = told_from 0 events (beginning s) place (line.Ended m (Accepted answer)) at in
      let right : AcceptsRight h s r.moment = all_get (AcceptsRight h s) (run_of h s events) place r.moment r.now (accepted h s events is) in
      record { moment = r.moment; now = r.now; event = r.event; comes = r.comes; right = right r.event r.happened m answer r.allowed (sym r.line) }

  -- ---- the moments, one after the other

  first_moment : (x : Moment) (events : List Event) → slice_get (moments_from h s (Some x) events) 0 ≡ Some x
  first_moment x [] = refl
  first_moment x (e ∷ events) = refl

  pub first_is : (events : List Event) → slice_get (run_of h s events) 0 ≡ Some (beginning s)
  first_is events = first_moment (beginning s) events

  next_by : (y : Moment) (f : Event) (events : List Event) (i : ℕ) (x : Moment) (e : Event) (t : Happened) (o : Option Happened) → happens h s y.world f ≡ o
      → ((z : Moment) → slice_get (moments_from h s (Some z) events) i ≡ Some x → slice_get events i ≡ Some e → happens h s x.world e ≡ Some t → slice_get (moments_from h s (Some z) events) (suc i) ≡ Some (moment_after x e t))
      → slice_get (moments_from h s (moment_by y f o) events) i ≡ Some x → slice_get events i ≡ Some e → happens h s x.world e ≡ Some t
      → slice_get (moments_from h s (moment_by y f o) events) (suc i) ≡ Some (moment_after x e t)
  next_by y f events i x e t None is rest at comes allowed = absurd (cc)
  next_by y f events i x e t (Some u) is rest at comes allowed = rest (moment_after y f u) at comes allowed

  next_first : (y : Moment) (f : Event) (events : List Event) (t : Happened) (o : Option Happened) → o ≡ Some t
      → slice_get (moments_from h s (moment_by y f o) events) 0 ≡ Some (moment_after y f t)
  next_first y f events t None is = absurd (cc)
  next_first y f events t (Some u) is = let w : u ≡ t = cc in first_moment (moment_after y f u) events ∙ ap (λ (v : Happened). Some (moment_after y f v)) w

  pub next_is : (events : List Event) (y : Moment) (i : ℕ) (x : Moment) (e : Event) (t : Happened) → slice_get (moments_from h s (Some y) events) i ≡ Some x → slice_get events i ≡ Some e
      → happens h s x.world e ≡ Some t → slice_get (moments_from h s (Some y) events) (suc i) ≡ Some (moment_after x e t)
  next_is [] y i x e t at comes allowed = absurd (cc)
  next_is (f ∷ events) y zero x e t at comes allowed =
      let a : y ≡ x = cc in
      let b : f ≡ e = cc in
      let c : happens h s y.world f ≡ Some t = ap (λ (z : Moment). happens h s z.world f) a ∙ ap (λ (g : Event). happens h s x.world g) b ∙ allowed in
      next_first y f events t (happens h s y.world f) c ∙ ap (λ (z : Moment). Some (moment_after z f t)) a ∙ ap (λ (g : Event). Some (moment_after x g t)) b
  next_is (f ∷ events) y (suc i) x e t at comes allowed =
      next_by y f events i x e t (happens h s y.world f) refl (λ z. next_is events z i x e t) at comes allowed
