-- Lists of lists that keep what they have and get more room.
use Rattle.std.proofs.Common.{◌≡◌, ℕ, ◌+◌, ◌<◌, ◌≤◌, ◌⊎◌, inl, inr, List, [], ◌∷◌, ◌++◌, length, refl, ap, sym, ◌∙◌, arith, zero, suc, subst}
use Rattle.std.specs.Prelude.{Option, Some, IfSome, Vec, vec_len, vec_capacity, slice_get, slice_set}
use Rattle.std.specs.declared.alloc.Global.{Global}
use Rattle.std.proofs.Math.ListN.{length-set}
use Rattle.std.proofs.lemmas.Bool.{cases_eq}
use Rattle.dory_base.proofs.LogLaws.{get_set_same, get_set_other}
use Rattle.dory_log.specs.declared.own.Own.{Own}
use Rattle.dory_log.specs.Own.{items_of, own_at, HasRoom, IsGrown}

-- there is room for so many more in a list
abbrev pub Fits : ℕ → Option (Vec Own Global) → Type 0
Fits more o = IfSome o (λ list. vec_len list + more ≤ vec_capacity list)

pub grown_refl : (lists : List (Vec Own Global)) → IsGrown lists lists
grown_refl lists = record { long = refl; own = λ m. refl; room = λ more h. h }

-- one list has the same with no less room
pub grown_set : (before now : List (Vec Own Global)) (i : ℕ) (v v' : Vec Own Global) → IsGrown before now → i < length now → slice_get now i ≡ Some v →
    v'.items ≡ v.items → vec_len v' ≡ vec_len v → vec_capacity v ≤ vec_capacity v' → IsGrown before (slice_set now i v')
grown_set before now i v v' grown within there items len cap = record {
  long = length-set now i v' ∙ grown.long;
  own = λ m. own m (cases_eq i m);
  room = λ more h m. room more (grown.room more h) m (cases_eq i m);
}
  where
    own : (m : ℕ) → ((i ≡ m) ⊎ (i ≡ m → ⊥)) → own_at (slice_set now i v') m ≡ own_at before m
    own m (inl e) = subst (λ (m : ℕ). own_at (slice_set now i v') m ≡ own_at before m) e
        (ap items_of (get_set_same now i v' within) ∙ items ∙ ap items_of (sym there) ∙ grown.own i)
    own m (inr ne) = ap items_of (get_set_other now i m v' ne) ∙ grown.own m

    room : (more : ℕ) → HasRoom now more → (m : ℕ) → ((i ≡ m) ⊎ (i ≡ m → ⊥)) → Fits more (slice_get (slice_set now i v') m)
    room more h m (inl e) = subst (λ (m : ℕ). Fits more (slice_get (slice_set now i v') m)) e
        (subst (λ (o : Option (Vec Own Global)). Fits more o) (sym (get_set_same now i v' within))
        (let r = subst (λ (o : Option (Vec Own Global)). Fits more o) there (h i) in omega (arith, r, len, cap)))
    room more h m (inr ne) = subst (λ (o : Option (Vec Own Global)). Fits more o) (sym (get_set_other now i m v' ne)) (h m)

-- the first n lists have room
abbrev pub HasRoomBelow : ℕ → List (Vec Own Global) → ℕ → Type 0
HasRoomBelow n lists more = (m : ℕ) → m < n → Fits more (slice_get lists m)

pub room_next : (lists : List (Vec Own Global)) (i more : ℕ) (v' : Vec Own Global) → i < length lists → HasRoomBelow i lists more → vec_len v' + more ≤ vec_capacity v' →
    HasRoomBelow (i + 1) (slice_set lists i v') more
room_next lists i more v' within below here m h = by_case (cases_eq i m)
  where
    by_case : ((i ≡ m) ⊎ (i ≡ m → ⊥)) → Fits more (slice_get (slice_set lists i v') m)
    by_case (inl e) = subst (λ (m : ℕ). Fits more (slice_get (slice_set lists i v') m)) e
        (subst (λ (o : Option (Vec Own Global)). Fits more o) (sym (get_set_same lists i v' within)) here)
    by_case (inr ne) = subst (λ (o : Option (Vec Own Global)). Fits more o) (sym (get_set_other lists i m v' ne)) (below m (omega arith))

past_all : (lists : List (Vec Own Global)) (more : ℕ) (m : ℕ) → (m < length lists → Fits more (slice_get lists m)) → Fits more (slice_get lists m)
past_all [] more m h = tt
past_all (x ∷ lists) more zero h = h (omega arith)
past_all (x ∷ lists) more (suc m) h = past_all lists more m (λ l. h (omega arith))

-- room in the first lists, when these are all, is room in each
pub room_all : (lists : List (Vec Own Global)) (n more : ℕ) → length lists ≤ n → HasRoomBelow n lists more → HasRoom lists more
room_all lists n more long below m = past_all lists more m (λ l. below m (omega arith))

-- ---- empty lists

-- one more empty list
pub empty_more : (lists : List (Vec Own Global)) (v : Vec Own Global) → v.items ≡ [] → ((m : ℕ) → own_at lists m ≡ []) → (m : ℕ) → own_at (lists ++ v ∷ []) m ≡ []
empty_more [] v e h zero = e
empty_more [] v e h (suc m) = refl
empty_more (x ∷ lists) v e h zero = h 0
empty_more (x ∷ lists) v e h (suc m) = empty_more lists v e (λ m. h (suc m)) m
