-- Lists of which one place is written, and the place of an element.
use Rattle.std.proofs.Common.{◌≡◌, ℕ, zero, suc, ◌+◌, ◌<◌, List, [], ◌∷◌, length, drop, refl, ap, sym, arith, add-one}
use Rattle.std.specs.Prelude.{Some, slice_get, slice_index_or, slice_set}

-- the second of two writes at one place stays
pub set_twice : {A : Type 0} (xs : List A) (i : ℕ) (v w : A) → slice_set (slice_set xs i v) i w ≡ slice_set xs i w
set_twice [] i v w = refl
set_twice (x ∷ xs) zero v w = refl
set_twice (x ∷ xs) (suc i) v w = ap (λ (ys : List _). x ∷ ys) (set_twice xs i v w)

-- what is there is written again
pub set_same : {A : Type 0} (xs : List A) (i : ℕ) (v : A) → slice_get xs i ≡ Some v → slice_set xs i v ≡ xs
set_same [] i v e = refl
set_same (x ∷ xs) zero v e = let w : x ≡ v = cc in ap (λ (y : _). y ∷ xs) (sym w)
set_same (x ∷ xs) (suc i) v e = ap (λ (ys : List _). x ∷ ys) (set_same xs i v e)

drop_from : {A : Type 0} (xs : List A) (i : ℕ) (v : A) → slice_get xs i ≡ Some v → drop i xs ≡ v ∷ drop (suc i) xs
drop_from [] i v e = absurd (cc)
drop_from (x ∷ xs) zero v e = let w : x ≡ v = cc in ap (λ (y : _). y ∷ xs) w
drop_from (x ∷ xs) (suc i) v e = drop_from xs i v e

-- from a place on, the list begins with what is there
pub drop_at : {A : Type 0} (xs : List A) (i : ℕ) (v : A) → slice_get xs i ≡ Some v → drop i xs ≡ v ∷ drop (i + 1) xs
drop_at xs i v e = rw add-one (drop_from xs i v e)

-- what is read within a list is there
pub there : {A : Type 0} (xs : List A) (i : ℕ) (v : A) → i < length xs → v ≡ slice_index_or xs i v → slice_get xs i ≡ Some v
there [] i v h e = absurd (omega arith)
there (x ∷ xs) zero v h e = ap Some (sym e)
there (x ∷ xs) (suc i) v h e = there xs i v (omega arith) e
