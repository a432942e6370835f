-- A lawful history makes a folder as every domain holds it.
use Rattle.std.proofs.Common.{◌≡◌, ℕ, ◌<◌, ◌≤◌, List, [], ◌∷◌, ◌++◌, length, map, refl, ap, sym, ◌∙◌, subst, arith, Option, Some, None, Ok, inl, inr}
use Rattle.std.specs.Prelude.{slice_set}
use Rattle.std.specs.List.{fold, AllByRecursion}
use Rattle.std.proofs.lemmas.Bool.{cases_eq}
use Rattle.std.proofs.lemmas.List.{length-map}
use Rattle.dory_base.specs.Dims.{Dims, IsDims}
use Rattle.dory_base.specs.declared.entry.Entry.{Entry}
use Rattle.dory_base.specs.declared.event.Event.{Event}
use Rattle.dory_base.specs.declared.event.Event.TheVariants.{Staged, Appended}
use Rattle.dory_base.specs.declared.ids.Side.{Side}
use Rattle.dory_base.specs.declared.ids.Side.TheVariants.{Lead}
use Rattle.dory_base.specs.declared.ids.UpdateId.{UpdateId}
use Rattle.dory_base.specs.History.{IsEntryOf, IsChangeOf}
use Rattle.dory_base.specs.Log.{Log, staged_by, staged_as}
use Rattle.dory_base.specs.Step.{State, IsState, IsLog, IsStagedOf, empty_state, log_of, ids_of, after, state_appended}
use Rattle.dory_base.proofs.LogLaws.{new_seen, place_set_same, place_set_other, place_within, with_id_some, all_snoc, nothing_staged}
use Rattle.dory_base.proofs.StepLaws.{after_is_state, empty_is_state}
use Rattle.dory_domain.specs.Held.{Held, IsHeld, IsNamed, IsNamedPlace}
use Rattle.dory_shelf.specs.Published.{Shelf, Published, folder_of, history_of, Makes, LawfulFrom, IsLawful}
use Rattle.dory_shared.specs.Seen.{Seen, IsKept, folder_as, held_of}
use Rattle.dory_shared.proofs.Folding.{shape_is}

-- what is true of a folder after lawful operations
pub record IsGood (s : State) : Type 0 where
  pub state : IsState s
  pub named : AllByRecursion IsNamed s.history
  pub waiting : (member : ℕ) → IsNamedPlace (staged_by s.staged member)

set_named : (xs : List (Option Entry)) (i : ℕ) (v : Option Entry) → i < length xs → IsNamedPlace v → ((m : ℕ) → IsNamedPlace (staged_by xs m)) → (m : ℕ) → IsNamedPlace (staged_by (slice_set xs i v) m)
set_named xs i v h named all m =
    elim (cases_eq i m) [
      | inl eq ↦
          subst (λ (m : ℕ). IsNamedPlace (staged_by (slice_set xs i v) m)) eq (subst IsNamedPlace (sym (place_set_same xs i v h)) named)
      | inr other ↦
          subst IsNamedPlace (sym (place_set_other xs i m v other)) (all m)
    ]

appended_good : (s : State) (id : UpdateId) (o : Option Entry) → staged_as s.staged id ≡ o → IsGood s → IsState (state_appended s id o) → IsGood (state_appended s id o)
appended_good s id None h good state = record { state = state; named = good.named; waiting = good.waiting }
appended_good s id (Some e) h good state =
    let p = with_id_some id (staged_by s.staged id.member.0) e h in
    record {
      state = state;
      named = all_snoc IsNamed s.history e good.named (subst IsNamedPlace p.0 (good.waiting id.member.0));
      waiting = set_named s.staged id.member.0 None (place_within s.staged id.member.0 e p.0) tt good.waiting;
    }

ids_length : (s : State) → length (ids_of s.history) ≡ length s.history
ids_length s = length-map s.history (λ (e : Entry). e.id)

made_good : (s : State) (e : Event) → IsGood s → Makes s e → IsGood (after s e)
made_good s (Staged e) good makes =
    let new = new_seen (log_of s) e makes.0 in
    record {
      state = after_is_state s (Staged e) good.state (new, makes.1) makes.3;
      named = good.named;
      waiting = set_named s.staged e.id.member.0 (Some e) (omega (arith, new.member, good.state.log.places)) makes.2 good.waiting;
    }
made_good s (Appended id) good makes =
    appended_good s id (staged_as s.staged id) refl good
    (after_is_state s (Appended id) good.state (makes.0.0, makes.0.1, omega (arith, makes.1, ids_length s)) tt)

all_good : (s : State) (events : List Event) → IsGood s → LawfulFrom s events → IsGood (fold after s events)
all_good s [] good lawful = good
all_good s (e ∷ es) good lawful = all_good (after s e) es (made_good s e good lawful.0) lawful.1

pub good_of : (h : Published) → IsLawful h → IsGood (folder_of h)
good_of h lawful =
    all_good (empty_state Lead h.shelf.shape h.shelf.retained) h.events
    (record { state = empty_is_state Lead h.shelf.shape h.shelf.retained; named = tt; waiting = λ m. subst IsNamedPlace (sym (nothing_staged 64 m)) tt })
    lawful

log_as : (role : Side) (h : Published) → IsLog (log_of (folder_of h)) → IsLog (log_of (folder_as role h))
log_as role h is = record { few = is.few; ids = is.ids; rising = is.rising; places = is.places; above = is.above }

state_as : (role : Side) (h : Published) → IsState (folder_of h) → IsState (folder_as role h)
state_as role h is = record {
  log = log_as role h is.log;
  entries = subst (λ (d : Dims). AllByRecursion (IsEntryOf d) (history_of h)) (shape_is h) is.entries;
  staged = λ m. subst (λ (d : Dims). IsStagedOf d (staged_by (folder_of h).staged m)) (shape_is h) (is.staged m);
}

-- the folder that was seen
pub held_seen : (s : Seen) → IsKept s.known → IsLawful s.known → IsHeld (held_of s)
held_seen s kept lawful =
    let good = good_of s.known lawful in
    record {
      dims = kept.dims;
      some = kept.some;
      few = kept.few;
      state = state_as s.role s.known good.state;
      named = good.named;
      waiting = good.waiting;
    }

-- a staged update is of the folder's shape
pub staged_fits : (h : Published) (id : UpdateId) (e : Entry) → IsLawful h → staged_as (folder_of h).staged id ≡ Some e → IsChangeOf h.shelf.shape e.change
staged_fits h id e lawful there =
    let p = with_id_some id (staged_by (folder_of h).staged id.member.0) e there in
    let entry : IsEntryOf h.shelf.shape e =
    subst (λ (o : Option Entry). IsStagedOf h.shelf.shape o) p.0 ((state_as Lead h (good_of h lawful).state).staged id.member.0) in
    entry.change

-- a later history of the shelf is kept as the earlier one is
pub kept_later : (h later : Published) → later.shelf ≡ h.shelf → IsKept h → IsKept later
kept_later h later same kept = record {
  dims = subst (λ (s : Shelf). IsDims s.shape) (sym same) kept.dims;
  some = subst (λ (s : Shelf). 1 ≤ s.retained) (sym same) kept.some;
  few = subst (λ (s : Shelf). s.retained ≤ 256) (sym same) kept.few;
}
