-- The slots of a copy, as contracts see them.
use Rattle.std.proofs.Common.{◌≡◌, ℕ, ◌<◌, ◌≤◌, ◌%◌, ◌-◌, List, [], ◌∷◌, length, map, Option, Some, None, slice_get, slice_set, set, get_or, refl, sym, ◌∙◌, ap, arith, zero, suc, replicate, ◌⊎◌, inl, inr, ⊎_elim}
use Rattle.std.proofs.lemmas.List.{map-set, length-map, length-set, length-replicate}
use Rattle.std.proofs.lemmas.Nat.{mod_below}
use Rattle.std.proofs.lemmas.Option.{slice_get-map, slice_get_read}
use Rattle.std.specs.Option.{option_map}
use Rattle.dory_shelf.specs.Published.{Shelf, Published, IsLawful}
use Rattle.dory_shelf.specs.ShelfRule.{Shown, IsShelf, first_shown}
use Rattle.dory_shelf.specs.Slots.{slots_with, slots_after, shown_after}
use Rattle.dory_shelf.specs.Writing.{StoredOf}
use Rattle.dory_shelf.specs.declared.store.Stored.{Stored}
use Rattle.dory_shelf.specs.declared.store.Change.{Change}

abbrev pub front_at : Option Stored → Option Published
front_at slot = option_map (λ k. k.front) slot

pub put_shown : (items : List (Option Stored)) (shown : List (Option Published)) (k : Stored) (n : ℕ) → map front_at items ≡ shown → n ≡ length items
    → map front_at (slice_set items (k.number % n) (Some k)) ≡ slots_with shown k
put_shown items shown k n is len =
    let n' : n ≡ length shown = len ∙ (sym (length-map items front_at) ∙ ap length is) in
    map-set front_at items (k.number % n) (Some k) ∙ (ap (λ s. slice_set s (k.number % n) (Some k.front)) is ∙ ap (λ m. slice_set shown (k.number % m) (Some k.front)) n')

-- a slot's version is of the shelf
pub slot_named : (x : Shown) (items : List (Option Stored)) (k : Stored) (number n : ℕ) → IsShelf x → map front_at items ≡ x.slots → n ≡ length items → 0 < n
    → Some k ≡ get_or items (number % n) (Some k) → k.front.shelf ≡ x.known.shelf
slot_named x items k number n shelf is len some at =
    let here : slice_get items (number % n) ≡ Some (Some k) = slice_get_read items n (number % n) (Some k) len (mod_below number n some) at in
    let there : slice_get x.slots (number % n) ≡ Some (Some k.front) = ap (λ s. slice_get s (number % n)) (sym is) ∙ (slice_get-map front_at items (number % n) ∙ ap (λ o. option_map front_at o) here) in
    shelf.named (number % n) k.front there

-- ---- what is shown first

blank_rest : (m : ℕ) → map front_at (replicate m None) ≡ replicate m None
blank_rest zero = refl
blank_rest (suc m) = ap (λ l. None ∷ l) (blank_rest m)

pub blank_slots : (n : ℕ) (s : Stored) (k : Published) → 1 ≤ n → s.front ≡ k → map front_at (slice_set (replicate n None) 0 (Some s)) ≡ Some k ∷ replicate (n - 1) None
blank_slots zero s k some is = absurd (omega arith)
blank_slots (suc m) s k some is =
    let e : suc m - 1 ≡ m = omega arith in
    rw e (ap (λ (y : Published). Some y ∷ map front_at (replicate m None)) is ∙ ap (λ l. Some k ∷ l) (blank_rest m))

nones_named : {A : Type 0} (m slot : ℕ) (k : A) → slice_get (replicate m None) slot ≡ Some (Some k) → ⊥
nones_named zero slot k at = cc
nones_named (suc m) zero k at = cc at
nones_named (suc m) (suc slot) k at = nones_named m slot k at

first_named : (k : Published) (m slot : ℕ) (j : Published) → slice_get (Some k ∷ replicate m None) slot ≡ Some (Some j) → j.shelf ≡ k.shelf
first_named k m zero j at = let e : k ≡ j = cc at in ap (λ (y : Published). y.shelf) (sym e)
first_named k m (suc slot) j at = absurd (nones_named m slot j at)

-- version 0 alone is what a shelf shows first
pub first_is_shelf : (k : Published) → IsLawful k → 1 ≤ k.shelf.retained → IsShelf (first_shown k)
first_is_shelf k lawful some = record {
  lawful = lawful;
  retained = omega (arith, some, ap suc (length-replicate {A = Option Published} (k.shelf.retained - 1) None));
  named = λ slot j at. first_named k (k.shelf.retained - 1) slot j at;
}

-- ---- what is shown after a change

slots_length : (slots : List (Option Published)) (o : Option Stored) → length (slots_after slots o) ≡ length slots
slots_length slots None = refl
slots_length slots (Some k) = length-set slots (k.number % length slots) (Some k.front)

-- what is found after a write was written there, or stood there before
get_set : {A : Type 0} (xs : List A) (i j : ℕ) (y z : A) → slice_get (set xs i y) j ≡ Some z → ((j ≡ i) × (y ≡ z)) ⊎ (slice_get xs j ≡ Some z)
get_set [] i j y z at = inr at
get_set (x ∷ xs) zero zero y z at = inl (refl, cc at)
get_set (x ∷ xs) zero (suc j) y z at = inr at
get_set (x ∷ xs) (suc i) zero y z at = inr at
get_set (x ∷ xs) (suc i) (suc j) y z at = ⊎_elim (λ (t : (j ≡ i) × (y ≡ z)). inl (ap suc t.0, t.1)) (λ (t : slice_get xs j ≡ Some z). inr t) (get_set xs i j y z at)

slots_named : (x : Shown) (front : Published) (o : Option Stored) → IsShelf x → front.shelf ≡ x.known.shelf → StoredOf x.known o → (slot : ℕ) (k : Published)
    → slice_get (slots_after x.slots o) slot ≡ Some (Some k) → k.shelf ≡ front.shelf
slots_named x front None shelf same stored slot k at = shelf.named slot k at ∙ sym same
slots_named x front (Some s) shelf same stored slot k at =
    ⊎_elim (λ (t : (slot ≡ s.number % length x.slots) × (Some s.front ≡ Some k)). let e : s.front ≡ k = cc (t.1) in (ap (λ (y : Published). y.shelf) (sym e) ∙ stored) ∙ sym same) (λ (t : slice_get x.slots slot ≡ Some (Some k)). shelf.named slot k t ∙ sym same)
    (get_set x.slots (s.number % length x.slots) slot (Some s.front) (Some k) at)

-- a change leaves a shelf
pub changed_is_shelf : (x : Shown) (c : Change) → IsShelf x → c.front.shelf ≡ x.known.shelf → IsLawful c.front → StoredOf x.known c.stored → IsShelf (shown_after x c)
changed_is_shelf x c shelf same lawful stored = record {
  lawful = lawful;
  retained = slots_length x.slots c.stored ∙ (shelf.retained ∙ ap (λ (s : Shelf). s.retained) (sym same));
  named = slots_named x c.front c.stored shelf same stored;
}
