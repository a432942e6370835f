-- The law, over every run.
use Rattle.std.proofs.Common.{◌≡◌, ℕ, zero, suc, ◌+◌, ◌≤◌, false, List, [], ◌∷◌, refl, sym, arith, subst}
use Rattle.std.specs.Prelude.{Option, Some, None, IfSome, slice_get}
use Rattle.std.specs.List.{AllByRecursion}
use Rattle.dory_base.specs.Step.{empty_state}
use Rattle.dory_base.specs.declared.entry.Entry.{Entry}
use Rattle.dory_base.specs.declared.ids.Side.{Side}
use Rattle.dory_base.specs.declared.ids.Side.TheVariants.{Lead, Follow}
use Rattle.dory_base.proofs.LogLaws.{nothing_staged}
use Rattle.dory_base.proofs.StepLaws.{history_is}
use Rattle.dory_domain.proofs.StepHeld.{held_opened}
use Rattle.dory_seal.specs.Seal.{IsSealed}
use Rattle.dory_state.specs.Spelling.{IsKeptState}
use Rattle.dory_run.specs.declared.event.Event.{Event}
use Rattle.dory_run.specs.declared.event.Honest.{Honest}
use Rattle.dory_run.specs.declared.setup.Setup.{Setup}
use Rattle.dory_run.specs.Happening.{Happened, happens, lies}
use Rattle.dory_run.specs.Kept.{IsFolder, IsGood, IsPutRight, IsStation, IsStored}
use Rattle.dory_run.specs.Law.{AcceptsRight, AreWhole, HaveSeen, IsMade, kept_in}
use Rattle.dory_run.specs.Named.{IsNamed, IsNamedStation}
use Rattle.dory_run.specs.Run.{Moment, beginning, moment_after, moment_by, moments_from, next_moment, run_of}
use Rattle.dory_run.specs.Seen.{IsSeen, StationSeen, length_of}
use Rattle.dory_run.specs.Start.{IsSetup, fresh, keys_in, members_from, start}
use Rattle.dory_run.specs.World.{Station, Idle, Replied, folder_of}
use Rattle.dory_run.proofs.Counts.{Counted, IsCounted, counted_move, history_few, made_few}
use Rattle.dory_run.proofs.Good.{good_move, sealed_made}
use Rattle.dory_run.proofs.Lists.{all_get, all_map, some_map}
use Rattle.dory_run.proofs.Moves.{Moves, moves}
use Rattle.dory_run.proofs.Naming.{named_move}
use Rattle.dory_run.proofs.Searches.{accepts_right}
use Rattle.dory_run.proofs.SeenLaws.{seen_move}

-- ---- what holds at each moment

pub record Holds (h : Honest) (s : Setup) (x : Moment) : Type 0 where
  pub good : IsGood s x.world x.made
  pub named : IsNamed h x.world x.given
  pub seen : (side : Side) → lies h side ≡ false → IsSeen side x.world
  pub counted : IsCounted x.world.members x.made

module _ (h : Honest) (s : Setup) where
  moved_on : (x : Moment) (e : Event) (t : Happened) → Moves h s x.world e t → Holds h s x → Holds h s (moment_after x e t)
  moved_on x e t m a = record {
    good = good_move s h x.world x.made e t m a.good;
    named = named_move h s x.world x.made x.given e t m a.good a.named;
    seen = λ side honest. seen_move h s side honest x.world x.given e t m a.named (a.seen side honest);
    counted = counted_move s x.world x.made a.good a.counted h e t m;
  }

  next_holds : (x : Moment) (e : Event) (o : Option Happened) → happens h s x.world e ≡ o → Holds h s x → IfSome (moment_by x e o) (Holds h s)
  next_holds x e None is a = tt
  next_holds x e (Some t) is a =
      moved_on x e t (moves h s x.world (λ n side m frame came. all_get (IsPutRight s x.made) x.world.messages n (Replied side m frame) came a.good.messages) e t is) a

  all_hold : (o : Option Moment) (events : List Event) → IfSome o (Holds h s) → AllByRecursion (Holds h s) (moments_from h s o events)
  all_hold None events a = tt
  all_hold (Some x) [] a = (a, tt)
  all_hold (Some x) (e ∷ events) a = (a, all_hold (next_moment h s x e) events (next_holds x e (happens h s x.world e) refl a))

-- ---- the beginning

module _ (s : Setup) (is : IsSetup s) where
  empty_folder : (side : Side) → IsFolder s [] (empty_state side s.shape s.retained)
  empty_folder side = record {
    held = held_opened side (record { folder = s.folder; shape = s.shape; retained = s.retained }) is.shape is.some_retained is.few_retained;
    shape = refl;
    history = tt;
    staged = λ m. subst (λ (o : Option Entry). IfSome o (IsMade [])) (sym (nothing_staged 64 m)) tt;
  }

  folders : (side : Side) → IsFolder s [] (folder_of (start s) side)
  folders Lead = empty_folder Lead
  folders Follow = empty_folder Follow

  fresh_state : (n : ℕ) → n ≤ 63 → IsKeptState (fresh s n)
  fresh_state n le = record {
    folder = is.folder;
    member = le;
    shape = is.shape;
    master = refl;
    next = omega arith;
    serials = omega arith;
    seen = omega arith;
    used = omega arith;
    pending = tt;
  }

  fresh_stored : (n : ℕ) → n ≤ 63 → IsStored s [] n (fresh s n)
  fresh_stored n le = record { state = fresh_state n le; member = refl; folder = refl; shape = refl; master = refl; pending = tt }

  members_are : (P : ℕ → Station → Type 0) (from many i : ℕ) → from + many ≤ 64 → ((n : ℕ) → n ≤ 63 → P n (Idle (fresh s n))) → IfSome (slice_get (members_from s from many) i) (P (from + i))
  members_are P from zero i le h = tt
  members_are P from (suc many) zero le h = let e : from ≡ from + 0 = omega arith in subst (λ (m : ℕ). P m (Idle (fresh s from))) e (h from (omega (arith, le)))
  members_are P from (suc many) (suc i) le h =
      let e : (from + 1) + i ≡ from + suc i = omega arith in
      subst (λ (m : ℕ). IfSome (slice_get (members_from s (from + 1) many) i) (P m)) e (members_are P (from + 1) many i (omega (arith, le)) h)

  members_at : (P : ℕ → Station → Type 0) → ((n : ℕ) → n ≤ 63 → P n (Idle (fresh s n))) → (i : ℕ) → IfSome (slice_get (members_from s 0 s.members) i) (P i)
  members_at P h i = let e : 0 + i ≡ i = omega arith in subst (λ (m : ℕ). IfSome (slice_get (members_from s 0 s.members) i) (P m)) e (members_are P 0 s.members i (omega (arith, is.few_members)) h)

  begins_seen : (side : Side) (len : ℕ) (i : ℕ) → IfSome (slice_get (members_from s 0 s.members) i) (StationSeen side len)
  begins_seen side len i = members_at (λ m x. StationSeen side len x) (λ n le. record { seen = omega arith; run = tt }) i

  begins_hold : (h : Honest) → Holds h s (beginning s)
  begins_hold h = record {
    good = record { folders = folders; messages = tt; members = members_at (IsStation s []) fresh_stored; known = tt };
    named = record { messages = tt; members = members_at (λ m x. IsNamedStation h (start s) [] m x) (λ n le. tt) };
    seen = λ side honest i. begins_seen side (length_of (start s) side) i;
    counted = members_at (λ m x. Counted [] m (kept_in x).next_serial (kept_in x).used) (λ n le. record { all = λ epoch. omega arith; now = omega arith });
  }

  pub run_holds : (h : Honest) (events : List Event) → AllByRecursion (Holds h s) (run_of h s events)
  run_holds h events = all_hold h s (Some (beginning s)) events (begins_hold h)

-- ---- the law

whole_at : (h : Honest) (s : Setup) (x : Moment) → Holds h s x → AreWhole s x
whole_at h s x a side =
    let f = a.good.folders side in
    let history = (folder_of x.world side).history in
    let distinct = (history_is (folder_of x.world side) f.held.state).distinct in
    record {
      once = distinct;
      as_made = f.history;
      sealed = all_map (IsMade x.made) (IsSealed (keys_in s)) history (sealed_made s x.world x.made a.good) f.history;
      few = λ m epoch. omega (arith, history_few m epoch x.made history distinct f.history, made_few s x.world x.made a.good a.counted m epoch);
    }

pub whole : (h : Honest) (s : Setup) (events : List Event) → IsSetup s → AllByRecursion (AreWhole s) (run_of h s events)
whole h s events is = all_map (Holds h s) (AreWhole s) (run_of h s events) (whole_at h s) (run_holds s is h events)

pub seen : (h : Honest) (side : Side) → lies h side ≡ false → (s : Setup) (events : List Event) → IsSetup s → AllByRecursion (HaveSeen side) (run_of h s events)
seen h side honest s events is =
    all_map (Holds h s) (HaveSeen side) (run_of h s events)
    (λ x a m. some_map (StationSeen side (length_of x.world side)) (λ z. (kept_in z).seen ≤ length_of x.world side) (slice_get x.world.members m) (λ z b. b.seen) (a.seen side honest m)) (run_holds s is h events)

pub accepted : (h : Honest) (s : Setup) (events : List Event) → IsSetup s → AllByRecursion (AcceptsRight h s) (run_of h s events)
accepted h s events is = all_map (Holds h s) (AcceptsRight h s) (run_of h s events) (λ x a. accepts_right h s x a.good a.named) (run_holds s is h events)
