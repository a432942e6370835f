-- How many operations a lawful history has: each update is staged once and appended once, and at most 64 are staged.
use Rattle.std.proofs.Common.{◌≡◌, ℕ, zero, suc, ◌+◌, ◌*◌, ◌<◌, ◌≤◌, List, [], ◌∷◌, length, refl, ap, sym, ◌∙◌, subst, arith, length-append, Option, Some, None}
use Rattle.std.specs.Prelude.{replicate, slice_set}
use Rattle.std.specs.List.{fold}
use Rattle.std.proofs.Math.ListN.{length-set}
use Rattle.dory_base.specs.declared.entry.Entry.{Entry}
use Rattle.dory_base.specs.declared.event.Event.{Event}
use Rattle.dory_base.specs.declared.event.Event.TheVariants.{Staged, Appended}
use Rattle.dory_base.specs.declared.ids.UpdateId.{UpdateId}
use Rattle.dory_base.specs.declared.ids.Side.TheVariants.{Lead}
use Rattle.dory_base.specs.Log.{staged_by, staged_as}
use Rattle.dory_base.specs.Step.{State, empty_state, log_of, state_appended, after}
use Rattle.dory_base.proofs.LogLaws.{new_seen, with_id_some, place_within}
use Rattle.dory_shelf.specs.Published.{Published, history_of, Makes, LawfulFrom, IsFront, MayFollow, IsLawful, folder_of, with_event}
use Rattle.dory_shelf.proofs.Growing.{lawful_snoc}

-- 1 where a place has an update
abbrev taken : Option Entry → ℕ
taken None = 0
taken (Some e) = 1

-- how many places have one
abbrev stood : List (Option Entry) → ℕ
stood [] = 0
stood (o ∷ os) = taken o + stood os

stood_few : (places : List (Option Entry)) → stood places ≤ length places
stood_few [] = omega arith
stood_few (None ∷ places) = omega (arith, stood_few places)
stood_few (Some e ∷ places) = omega (arith, stood_few places)

stood_none : (n : ℕ) → stood (replicate n None) ≡ 0
stood_none zero = refl
stood_none (suc n) = let e : 0 + stood (replicate {A = Option Entry} n None) ≡ 0 = omega (arith, stood_none n) in e

stood_set : (places : List (Option Entry)) (i : ℕ) (v : Option Entry) → i < length places → stood (slice_set places i v) + taken (staged_by places i) ≡ stood places + taken v
stood_set [] i v h = absurd (omega arith)
stood_set (x ∷ places) zero v h = omega arith
stood_set (x ∷ places) (suc i) v h = omega (arith, stood_set places i v (omega arith))

-- n operations: twice what was appended, and once what is staged
record IsCounted (s : State) (n : ℕ) : Type 0 where
  places : length s.staged ≡ 64
  count : n ≡ 2 * length s.history + stood s.staged
  few : length s.history ≤ 1048576

appended_counted : (s : State) (n : ℕ) (id : UpdateId) (o : Option Entry) → staged_as s.staged id ≡ o → ((e : Entry) × (o ≡ Some e)) → length s.history < 1048576 →
    IsCounted s n → IsCounted (state_appended s id o) (n + 1)
appended_counted s n id None at some room counted = absurd (cc (some.1))
appended_counted s n id (Some e) at some room counted =
    let here = (with_id_some id (staged_by s.staged id.member.0) e at).0 in
    let within = place_within s.staged id.member.0 e here in
    let one : taken (staged_by s.staged id.member.0) ≡ 1 = ap taken here in
    let longer = length-append s.history (e ∷ []) in
    record {
      places = length-set s.staged id.member.0 None ∙ counted.places;
      count = omega (arith, stood_set s.staged id.member.0 None within, one, counted.count, longer);
      few = omega (arith, longer, room);
    }

after_counted : (s : State) (n : ℕ) (e : Event) → Makes s e → IsCounted s n → IsCounted (after s e) (n + 1)
after_counted s n (Staged e) may counted =
    let new = new_seen (log_of s) e may.0 in
    let within : e.id.member.0 < length s.staged = omega (arith, new.member, counted.places) in
    let none : taken (staged_by s.staged e.id.member.0) ≡ 0 = ap taken new.free in
    record {
      places = length-set s.staged e.id.member.0 (Some e) ∙ counted.places;
      count = omega (arith, stood_set s.staged e.id.member.0 (Some e) within, none, counted.count);
      few = counted.few;
    }
after_counted s n (Appended id) may counted = appended_counted s n id (staged_as s.staged id) refl may.0 may.1 counted

all_counted : (s : State) (events : List Event) (n : ℕ) → LawfulFrom s events → IsCounted s n → IsCounted (fold after s events) (n + length events)
all_counted s [] n lawful counted = subst (λ (m : ℕ). IsCounted s m) (omega arith) counted
all_counted s (e ∷ es) n lawful counted =
    subst (λ (m : ℕ). IsCounted (fold after (after s e) es) m) (omega arith) (all_counted (after s e) es (n + 1) lawful.1 (after_counted s n e lawful.0 counted))

counted_of : (h : Published) → IsLawful h → IsCounted (folder_of h) (0 + length h.events)
counted_of h lawful = all_counted (empty_state Lead h.shelf.shape h.shelf.retained) h.events 0 lawful (record { places = refl; count = sym (stood_none 64); few = omega arith })

-- a lawful history has at most 2,097,216 operations, and 1,048,576 updates
pub few_of : (h : Published) (operations updates : ℕ) → IsFront h operations updates → (operations ≤ 2097216) × (updates ≤ 1048576)
few_of h operations updates is =
    let c = counted_of h is.lawful in
    (omega (arith, is.operations_are, c.count, c.few, c.places, stood_few (folder_of h).staged), omega (arith, is.updates_are, c.few))

-- what was seen, with one operation more
pub more_is_front : (h later : Published) (e : Event) (operations updates updates' : ℕ) → IsFront h operations updates → MayFollow h e → later ≡ with_event h e
    → updates' ≡ length (history_of (with_event h e)) → IsFront later (operations + 1) updates'
more_is_front h later e operations updates updates' is may more count =
    subst (λ (k : Published). IsFront k (operations + 1) updates') (sym more) (record {
      operations_are = omega (arith, is.operations_are, length-append h.events (e ∷ []));
      updates_are = count;
      lawful = lawful_snoc h e is.lawful may;
      some = is.some;
    })
