-- Each kind of step keeps the rule of a shelf.
use Rattle.std.proofs.Common.{◌≡◌, ℕ, ◌≢◌, List, [], ◌∷◌, ◌++◌, refl, sym, ◌∙◌, subst, ⊎_elim, Option, Some, None, set, fold, ap}
use mathlib.Core.Option.{some}
use lib.ListN.{get_elem?}
use Rattle.left_right.specs.Register.{Admits, TurnsAt, Forks, Merges}
use Rattle.atomic_table.proofs.Lists.{at_set, at_snoc}
use Rattle.dory_shelf.specs.Published.{Published, Grew}
use Rattle.dory_shelf.specs.ShelfRule.{Shown, IsShelf, Agrees, Keeps, Sees}
use Rattle.dory_shelf.specs.declared.store.Stored.{Stored}
use Rattle.dory_shelf.specs.declared.store.Change.{Change}
use Rattle.dory_shelf.specs.Slots.{shown_after}
use Rattle.dory_shelf.specs.Writing.{StoredOf, GoesOn, NextOf}
use Rattle.dory_shelf.proofs.Growing.{grew_self, grew_trans}
use Rattle.dory_shelf.proofs.SlotLaws.{changed_is_shelf}

agrees_later : (x y : Shown) (v : Option Shown) → Grew x.known y.known → Agrees x v → Agrees y v
agrees_later x y None p a = tt
agrees_later x y (Some t) p a = grew_trans t.known x.known y.known a p

agrees_set : (x : Shown) (views : List (Option Shown)) (seat : ℕ) (w : Option Shown) → Agrees x w
    → ((j : ℕ) (v : Option Shown) → get_elem? views j ≡ some v → Agrees x v) → (j : ℕ) (v : Option Shown) → get_elem? (set views seat w) j ≡ some v → Agrees x v
agrees_set x views seat w here all j v at = ⊎_elim (λ (t : (j ≡ seat) × (w ≡ v)). subst (λ (o : Option Shown). Agrees x o) t.1 here) (λ (t : (j ≢ seat) × (get_elem? views j ≡ some v)). all j v t.1) (at_set views seat j w v at)

agrees_snoc : (x : Shown) (views : List (Option Shown)) (w : Option Shown) → Agrees x w
    → ((j : ℕ) (v : Option Shown) → get_elem? views j ≡ some v → Agrees x v) → (j : ℕ) (v : Option Shown) → get_elem? (views ++ w ∷ []) j ≡ some v → Agrees x v
agrees_snoc x views w here all j v at = ⊎_elim (all j v) (λ (same : w ≡ v). subst (λ (o : Option Shown). Agrees x o) same here) (at_snoc views w v j at)

-- a shelf, of which nobody knows anything yet
pub starts : (x : Shown) → IsShelf x → Keeps x (None ∷ [])
starts x shelf = (shelf, agrees_snoc x [] None tt (λ j v at. absurd (cc at)))

-- a reader's place is made
pub admits : Admits Keeps None
admits x views h = (h.0, agrees_snoc x views None tt h.1)

-- an enter, or a publish
turns : (seat : ℕ) (v : Option Shown) (x y : Shown) → Grew x.known y.known → (IsShelf x → IsShelf y) → TurnsAt Keeps seat v x y Sees
turns seat v x y p shelf views h at = (
  Some y,
  (shelf h.0, agrees_set y views seat (Some y) (grew_self y.known) (λ j u e. agrees_later x y u p (h.1 j u e))),
  (h.1 seat v at, shelf h.0, refl),
)

pub enters : (seat : ℕ) (v : Option Shown) (x : Shown) → TurnsAt Keeps seat v x x Sees
enters seat v x = turns seat v x x (grew_self x.known) (λ shelf. shelf)

-- the writer tells
pub forks : (seat : ℕ) (v : Option Shown) → Forks Keeps seat v v v
forks seat v x views h at = let a = h.1 seat v at in (h.0, agrees_snoc x (set views seat v) v a (agrees_set x views seat v a h.1))

-- a reader that is seated learns
pub merges : (seat : ℕ) (v : Option Shown) (other : ℕ) (w : Option Shown) → Merges Keeps seat v other w w None
merges seat v other w x views h at apart there =
    let a : Agrees x w = ⊎_elim (λ (t : (other ≡ seat) × (w ≡ w)). absurd (apart t.0)) (λ (t : (other ≢ seat) × (get_elem? views other ≡ some w)). h.1 other w t.1) (at_set views seat other w w there) in
    (h.0, agrees_set x (set views seat w) other None tt (agrees_set x views seat w a h.1))

-- the publish of one change
pub publishes : (seat : ℕ) (v : Option Shown) (x next : Shown) (k : Published) (ops : List Change) (c : Change) → x.known ≡ k → ops ≡ c ∷ [] → next ≡ fold shown_after x ops
    → GoesOn k c → TurnsAt Keeps seat v x next Sees
publishes seat v x next k ops c is one new goes =
    let e : next ≡ shown_after x c = new ∙ ap (λ l. fold shown_after x l) one in
    let goes' : GoesOn x.known c = subst (λ (y : Published). GoesOn y c) (sym is) goes in
    subst (λ (y : Shown). TurnsAt Keeps seat v x y Sees) (sym e) (turns seat v x (shown_after x c) goes'.0 (λ shelf. changed_is_shelf x c shelf goes'.0.0 goes'.1 goes'.2))

-- what is pending goes on from what is published
pub stored_of : (j k : Published) (o : Option Stored) → j.shelf ≡ k.shelf → StoredOf j o → StoredOf k o
stored_of j k None same stored = tt
stored_of j k (Some s) same stored = stored ∙ same

pub next_is : (k : Published) (o : Option Change) (c : Change) → o ≡ Some c → NextOf k o → GoesOn k c
next_is k o c e n = subst (λ (x : Option Change). NextOf k x) e n
