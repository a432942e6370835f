-- One more id keeps each member's own list and the room.
use Rattle.std.proofs.Common.{◌≡◌, ℕ, ◌+◌, ◌-◌, ◌<◌, ◌≤◌, List, [], ◌∷◌, ◌++◌, length, get_or, refl, ap, sym, ◌∙◌, arith, subst, ◌⊎◌, inl, inr, append-nil, length-append}
use Rattle.std.specs.Prelude.{◌==◌, Bool, true, false, if◌then◌else◌, Option, Some, None, Vec, vec_len, vec_capacity, slice_get, slice_set}
use Rattle.std.specs.declared.alloc.Global.{Global}
use Rattle.std.proofs.Math.ListN.{length-set}
use Rattle.std.proofs.lemmas.Bool.{cases_eq, eq-eqb, ne_eqb}
use Rattle.std.proofs.lemmas.Option.{slice_get_read}
use Rattle.dory_base.specs.declared.ids.UpdateId.{UpdateId}
use Rattle.dory_base.specs.Log.{last_of}
use Rattle.dory_base.specs.Step.{rises}
use Rattle.dory_base.proofs.IdLaws.{rises_snoc}
use Rattle.dory_base.proofs.LogLaws.{get_set_same, get_set_other}
use Rattle.dory_log.specs.declared.own.Own.{Own}
use Rattle.dory_log.specs.Own.{own_from, own_at, items_of}
use Rattle.dory_log.specs.Numbered.{IsNumbered, MayJoin}
use Rattle.dory_log.proofs.RoomLaws.{Fits}

own_snoc_if : (c : Bool) (n : ℕ) (y x : UpdateId) (ys : List UpdateId) (m : ℕ) (more : List Own) → own_from (n + 1) (ys ++ x ∷ []) m ≡ own_from (n + 1) ys m ++ more →
    (if c then record { serial = y.serial; number = n } ∷ own_from (n + 1) (ys ++ x ∷ []) m else own_from (n + 1) (ys ++ x ∷ []) m)
    ≡ (if c then record { serial = y.serial; number = n } ∷ own_from (n + 1) ys m else own_from (n + 1) ys m) ++ more
own_snoc_if true n y x ys m more e = ap (λ (l : List Own). record { serial = y.serial; number = n } ∷ l) e
own_snoc_if false n y x ys m more e = e

last_one : ℕ → UpdateId → ℕ → List Own
last_one n x m = if x.member.0 == m then record { serial = x.serial; number = n } ∷ [] else []

own_snoc : (ids : List UpdateId) (x : UpdateId) (m n : ℕ) → own_from n (ids ++ x ∷ []) m ≡ own_from n ids m ++ last_one (n + length ids) x m
unfolding last_one
own_snoc [] x m n = ap (λ (k : ℕ). if x.member.0 == m then record { serial = x.serial; number = k } ∷ [] else []) (let e : n ≡ n + 0 = omega arith in e)
own_snoc (y ∷ ys) x m n =
    let e : (n + 1) + length ys ≡ n + length (y ∷ ys) = omega arith in
    own_snoc_if (y.member.0 == m) n y x ys m (last_one (n + length (y ∷ ys)) x m)
    (own_snoc ys x m (n + 1) ∙ ap (λ (k : ℕ). own_from (n + 1) ys m ++ last_one k x m) e)

last_one_own : (n : ℕ) (x : UpdateId) → last_one n x x.member.0 ≡ record { serial = x.serial; number = n } ∷ []
unfolding last_one
last_one_own n x = ap (λ (b : Bool). if b then record { serial = x.serial; number = n } ∷ [] else []) (eq-eqb x.member.0 x.member.0 refl)

last_one_other : (n : ℕ) (x : UpdateId) (m : ℕ) → (x.member.0 ≡ m → ⊥) → last_one n x m ≡ []
unfolding last_one
last_one_other n x m ne = ap (λ (b : Bool). if b then record { serial = x.serial; number = n } ∷ [] else []) (ne_eqb x.member.0 m ne)

-- the id gets the next number, and its member's own list one more
pub joined : (ids ids' : Vec UpdateId Global) (own : List (Vec Own Global)) (v v' : Vec Own Global) (spare n : ℕ) (id : UpdateId) →
    IsNumbered ids own spare → MayJoin (record { ids = ids.items; spare = spare }) n id →
    ids'.items ≡ ids.items ++ id ∷ [] → vec_len ids' ≡ vec_len ids + 1 → vec_capacity ids ≤ vec_capacity ids' →
    v ≡ get_or own id.member.0 v → v'.items ≡ v.items ++ record { serial = id.serial; number = n } ∷ [] → vec_len v' ≡ vec_len v + 1 → vec_capacity v ≤ vec_capacity v' →
    IsNumbered ids' (slice_set own id.member.0 v') (spare - 1)
joined ids ids' own v v' spare n id k may items len cap here items' len' cap' =
    let within : id.member.0 < length own = omega (arith, may.member, k.lists) in
    let there : slice_get own id.member.0 ≡ Some v = slice_get_read own (length own) id.member.0 v refl within here in
    record {
      few = omega (arith, ap length items, length-append ids.items (id ∷ []), may.next, may.few);
      rising = λ m. subst (λ (l : List UpdateId). rises 0 l m ≡ true) (sym items)
          (rises_snoc ids.items id m 0 (k.rising m) (λ same. subst (λ (m : ℕ). last_of ids.items m < id.serial) same may.above));
      mine = λ m. mine_at within there m (cases_eq id.member.0 m);
      lists = length-set own id.member.0 v' ∙ k.lists;
      room = omega (arith, k.room, len, cap, may.spare);
      rooms = λ m. rooms_at within there m (cases_eq id.member.0 m);
    }
  where
    mine_at : id.member.0 < length own → slice_get own id.member.0 ≡ Some v → (m : ℕ) → ((id.member.0 ≡ m) ⊎ (id.member.0 ≡ m → ⊥)) → own_at (slice_set own id.member.0 v') m ≡ own_from 1 ids'.items m
    mine_at within there m (inl e) = subst (λ (m : ℕ). own_at (slice_set own id.member.0 v') m ≡ own_from 1 ids'.items m) e
        (let a : own_at (slice_set own id.member.0 v') id.member.0 ≡ v'.items = ap items_of (get_set_same own id.member.0 v' within) in
        let b : v.items ≡ own_from 1 ids.items id.member.0 = ap items_of (sym there) ∙ k.mine id.member.0 in
        let num : 1 + length ids.items ≡ n = omega (arith, may.next) in
        let c : own_from 1 ids'.items id.member.0 ≡ own_from 1 ids.items id.member.0 ++ record { serial = id.serial; number = n } ∷ [] =
        ap (λ (l : List UpdateId). own_from 1 l id.member.0) items ∙ own_snoc ids.items id id.member.0 1
        ∙ ap (λ (l : List Own). own_from 1 ids.items id.member.0 ++ l) (last_one_own (1 + length ids.items) id)
        ∙ ap (λ (i : ℕ). own_from 1 ids.items id.member.0 ++ record { serial = id.serial; number = i } ∷ []) num in
        a ∙ items' ∙ ap (λ (l : List Own). l ++ record { serial = id.serial; number = n } ∷ []) b ∙ sym c)
    mine_at within there m (inr ne) =
        ap items_of (get_set_other own id.member.0 m v' ne) ∙ k.mine m ∙ sym (
        ap (λ (l : List UpdateId). own_from 1 l m) items ∙ own_snoc ids.items id m 1
        ∙ ap (λ (l : List Own). own_from 1 ids.items m ++ l) (last_one_other (1 + length ids.items) id m ne) ∙ append-nil (own_from 1 ids.items m))

    rooms_at : id.member.0 < length own → slice_get own id.member.0 ≡ Some v → (m : ℕ) → ((id.member.0 ≡ m) ⊎ (id.member.0 ≡ m → ⊥)) → Fits (spare - 1) (slice_get (slice_set own id.member.0 v') m)
    rooms_at within there m (inl e) = subst (λ (m : ℕ). Fits (spare - 1) (slice_get (slice_set own id.member.0 v') m)) e
        (subst (λ (o : Option (Vec Own Global)). Fits (spare - 1) o) (sym (get_set_same own id.member.0 v' within))
        (let r = subst (λ (o : Option (Vec Own Global)). Fits spare o) there (k.rooms id.member.0) in omega (arith, r, len', cap', may.spare)))
    rooms_at within there m (inr ne) = subst (λ (o : Option (Vec Own Global)). Fits (spare - 1) o) (sym (get_set_other own id.member.0 m v' ne)) (less (slice_get own m) (k.rooms m))
      where
        less : (o : Option (Vec Own Global)) → Fits spare o → Fits (spare - 1) o
        less None r = tt
        less (Some x) r = omega (arith, r)
