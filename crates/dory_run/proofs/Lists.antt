-- What holds of each element of a list.
use Rattle.std.proofs.Common.{◌≡◌, ℕ, zero, suc, ◌<◌, List, [], ◌∷◌, ◌++◌, length, refl, arith, ◌⊎◌, inl, inr, subst}
use Rattle.std.specs.Prelude.{Option, Some, None, slice_get, slice_set, IfSome}
use Rattle.std.specs.List.{AllByRecursion}

pub all_append : {A : Type 0} (P : A → Type 0) (xs ys : List A) → AllByRecursion P xs → AllByRecursion P ys → AllByRecursion P (xs ++ ys)
all_append P [] ys p q = q
all_append P (x ∷ xs) ys p q = (p.0, all_append P xs ys p.1 q)

pub all_map : {A : Type 0} (P Q : A → Type 0) (xs : List A) → ((x : A) → P x → Q x) → AllByRecursion P xs → AllByRecursion Q xs
all_map P Q [] f p = tt
all_map P Q (x ∷ xs) f p = (f x p.0, all_map P Q xs f p.1)

pub all_get : {A : Type 0} (P : A → Type 0) (xs : List A) (i : ℕ) (x : A) → slice_get xs i ≡ Some x → AllByRecursion P xs → P x
all_get P [] i x e p = absurd (cc)
all_get P (y ∷ ys) zero x e p = let w : y ≡ x = cc in subst P w p.0
all_get P (y ∷ ys) (suc i) x e p = all_get P ys i x e p.1

pub some_map : {A : Type 0} (P Q : A → Type 0) (o : Option A) → ((x : A) → P x → Q x) → IfSome o P → IfSome o Q
some_map P Q None f p = tt
some_map P Q (Some x) f p = f x p

pub some_at : {A : Type 0} (P : A → Type 0) (o : Option A) (x : A) → o ≡ Some x → IfSome o P → P x
some_at {A = A} P o x e p = let Q : Option A → Type 0 = λ o. IfSome o P in subst Q e p

-- a place after a write has the new value, or what it had
pub get_set_cases : {A : Type 0} (xs : List A) (i j : ℕ) (v : A) → (slice_get (slice_set xs i v) j ≡ Some v) ⊎ (slice_get (slice_set xs i v) j ≡ slice_get xs j)
get_set_cases [] i j v = inr refl
get_set_cases (x ∷ xs) zero zero v = inl refl
get_set_cases (x ∷ xs) zero (suc j) v = inr refl
get_set_cases (x ∷ xs) (suc i) zero v = inr refl
get_set_cases (x ∷ xs) (suc i) (suc j) v = get_set_cases xs i j v

-- a place that has something is within the list
pub get_within : {A : Type 0} (xs : List A) (i : ℕ) (x : A) → slice_get xs i ≡ Some x → i < length xs
get_within [] i x e = absurd (cc)
get_within (y ∷ xs) zero x e = omega arith
get_within (y ∷ xs) (suc i) x e = omega (arith, get_within xs i x e)
