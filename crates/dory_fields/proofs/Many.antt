-- Fields of one kind one after the other: as a loop reads them, and as they are spelled.
use Rattle.std.proofs.Common.{◌≡◌, ℕ, zero, suc, ◌-◌, ◌+◌, ◌≤◌, ◌<◌, List, [], ◌∷◌, ◌++◌, length, Result, Ok, Err, refl, sym, ap, subst, ◌∙◌, append_assoc, arith}
use Rattle.std.specs.List.{flat_map, AllByRecursion}
use Rattle.std.proofs.lemmas.List.{append-nil}
use Rattle.std.proofs.lemmas.List.Concat.{flat_map-cons}
use Rattle.dory_fields.specs.declared.fault.FieldFault.{FieldFault}
use Rattle.dory_fields.specs.declared.fault.FieldFault.TheVariants.{CutShort, OutOfRange, NoMemory}
use Rattle.dory_fields.specs.Bytes.{IsBytes}
use Rattle.dory_fields.specs.Left.{Left}
use Rattle.dory_fields.specs.Reading.{◌>>=◌, Read, Fails, many_at}
use Rattle.dory_fields.proofs.Fields.{bind_ok, ok_is, Takes, Takes-then}

-- what was read before, and what is still read
abbrev pub with_front : {A : Type 0} → List A → Read (List A) → Read (List A)
with_front front read = read >>= λ x. Ok (front ++ x.0, x.1)

pub nothing_before : {A : Type 0} (read : Read (List A)) → with_front [] read ≡ read
nothing_before (Ok x) = refl
nothing_before (Err e) = refl

pub regroup : {A : Type 0} (front : List A) (x : A) (read : Read (List A)) → with_front front (read >>= λ more. Ok (x ∷ more.0, more.1)) ≡ with_front (front ++ x ∷ []) read
regroup front x (Ok more) = ap (λ xs. Ok (xs, more.1)) (simp append_assoc)
regroup front x (Err f) = refl

-- a fault that one step meets is that of the whole
pub fails_all : {A B : Type 0} (e : FieldFault) (one : Result A FieldFault) (whole : Result B FieldFault) → ((f : FieldFault) → one ≡ Err f → whole ≡ Err f) → Fails e one → Fails e whole
fails_all NoMemory one whole h g = tt
fails_all (CutShort at) one whole h g = h (CutShort at) g
fails_all (OutOfRange at) one whole h g = h (OutOfRange at) g

-- ---- in a loop

-- a reader that began at `start` stands at `now`, with i of so many fields read
pub record ReadsMany {A : Type 0} (one : ℕ → List ℕ → Read A) (front : List A) (count i : ℕ) (start now : Left) : Type 0 where
  pub total : now.total ≡ start.total
  pub made : with_front front (many_at one (count - i) now.total now.rest) ≡ many_at one count start.total start.rest

pub many_begin : {A : Type 0} (one : ℕ → List ℕ → Read A) (count : ℕ) (start : Left) → ReadsMany one [] count 0 start start
many_begin one count start =
    let all : count - 0 ≡ count = omega arith in
    record { total = refl; made = rw all (nothing_before (many_at one count start.total start.rest)) }

-- one more is read
pub many_go : {A : Type 0} (one : ℕ → List ℕ → Read A) (front : List A) (count i : ℕ) (start now next : Left) (x : A) → i < count → (next.total ≡ now.total) × (one now.total now.rest ≡ Ok (x, next.rest))
    → ReadsMany one front count i start now → ReadsMany one (front ++ x ∷ []) count (i + 1) start next
unfolding many_at
many_go one front count i start now next x lt took so_far =
    let k : count - i ≡ suc (count - (i + 1)) = omega arith in
    let step : with_front front (many_at one (count - i) now.total now.rest) ≡ with_front (front ++ x ∷ []) (many_at one (count - (i + 1)) now.total next.rest) = rw (k, took.1) (regroup front x (many_at one (count - (i + 1)) now.total next.rest)) in
    record {
      total = took.0 ∙ so_far.total;
      made = rw took.0 (sym step ∙ so_far.made);
    }

-- a fault is that of all
pub many_fail : {A : Type 0} (one : ℕ → List ℕ → Read A) (e : FieldFault) (front : List A) (count i : ℕ) (start now next : Left) → i < count → (next.total ≡ now.total) × Fails e (one now.total now.rest)
    → ReadsMany one front count i start now → (next.total ≡ start.total) × Fails e (many_at one count start.total start.rest)
unfolding many_at
many_fail one e front count i start now next lt took so_far =
    let k : count - i ≡ suc (count - (i + 1)) = omega arith in (
      took.0 ∙ so_far.total,
      fails_all e (one now.total now.rest) (many_at one count start.total start.rest) (λ f h.
          let step : with_front front (many_at one (count - i) now.total now.rest) ≡ Err f = rw (k, h) refl in
          sym so_far.made ∙ step) took.1,
    )

-- all are read
pub many_done : {A : Type 0} (one : ℕ → List ℕ → Read A) (front : List A) (count i : ℕ) (start now : Left) → count ≤ i → ReadsMany one front count i start now
    → (now.total ≡ start.total) × (many_at one count start.total start.rest ≡ Ok (front, now.rest))
unfolding many_at
many_done one front count i start now le so_far =
    let k : count - i ≡ 0 = omega arith in
    let step : with_front front (many_at one (count - i) now.total now.rest) ≡ Ok (front, now.rest) = rw k (ap (λ xs. Ok (xs, now.rest)) (append-nil front)) in
    (so_far.total, sym so_far.made ∙ step)

-- ---- in bytes

-- what is read is spelled so, and each of it is as it has to be
pub many_take : {A : Type 0} (one : ℕ → List ℕ → Read A) (spell : A → List ℕ) (P : A → Type 0) → ((total : ℕ) (bytes : List ℕ) (x : A × List ℕ) → IsBytes bytes → one total bytes ≡ Ok x → Takes bytes (spell x.0) x.1 × P x.0)
    → (n total : ℕ) (bytes : List ℕ) (x : List A × List ℕ) → IsBytes bytes → many_at one n total bytes ≡ Ok x → Takes bytes (flat_map spell x.0) x.1 × (length x.0 ≡ n) × AllByRecursion P x.0
unfolding many_at
many_take one spell P takes zero total bytes x fits e =
    subst (λ y. Takes bytes (flat_map spell y.0) y.1 × (length y.0 ≡ 0) × AllByRecursion P y.0) (ok_is ([], bytes) x e) (record { parts = refl; rest_fits = fits }, refl, tt)
many_take one spell P takes (suc n) total bytes x fits e =
    let a = bind_ok (one total bytes) (λ first. many_at one n total first.1 >>= λ more. Ok (first.0 ∷ more.0, more.1)) x e in
    let b = bind_ok (many_at one n total a.0.1) (λ more. Ok (a.0.0 ∷ more.0, more.1)) x a.2 in
    let first = takes total bytes a.0 fits a.1 in
    let second = many_take one spell P takes n total a.0.1 b.0 first.0.rest_fits b.1 in
    let both = Takes-then bytes (spell a.0.0) a.0.1 (flat_map spell b.0.0) b.0.1 first.0 second.0 in
    subst (λ y. Takes bytes (flat_map spell y.0) y.1 × (length y.0 ≡ suc n) × AllByRecursion P y.0) (ok_is (a.0.0 ∷ b.0.0, b.0.1) x b.2)
    (rw flat_map-cons both, ap suc second.1, (first.1, second.2))

-- so many are read, and each of it is as it has to be
pub many_each : {A : Type 0} (one : ℕ → List ℕ → Read A) (P : A → Type 0) → ((total : ℕ) (bytes : List ℕ) (x : A × List ℕ) → one total bytes ≡ Ok x → P x.0)
    → (n total : ℕ) (bytes : List ℕ) (x : List A × List ℕ) → many_at one n total bytes ≡ Ok x → (length x.0 ≡ n) × AllByRecursion P x.0
unfolding many_at
many_each one P each zero total bytes x e = subst (λ y. (length y.0 ≡ 0) × AllByRecursion P y.0) (ok_is ([], bytes) x e) (refl, tt)
many_each one P each (suc n) total bytes x e =
    let a = bind_ok (one total bytes) (λ first. many_at one n total first.1 >>= λ more. Ok (first.0 ∷ more.0, more.1)) x e in
    let b = bind_ok (many_at one n total a.0.1) (λ more. Ok (a.0.0 ∷ more.0, more.1)) x a.2 in
    let more = many_each one P each n total a.0.1 b.0 b.1 in
    subst (λ y. (length y.0 ≡ suc n) × AllByRecursion P y.0) (ok_is (a.0.0 ∷ b.0.0, b.0.1) x b.2) (ap suc more.0, (each total bytes a.0 a.1, more.1))

-- what is spelled so is read
pub many_again : {A : Type 0} (one : ℕ → List ℕ → Read A) (spell : A → List ℕ) (P : A → Type 0) (total : ℕ) → ((x : A) (rest : List ℕ) → P x → one total (spell x ++ rest) ≡ Ok (x, rest))
    → (xs : List A) (rest : List ℕ) → AllByRecursion P xs → many_at one (length xs) total (flat_map spell xs ++ rest) ≡ Ok (xs, rest)
unfolding many_at
many_again one spell P total again [] rest are = refl
many_again one spell P total again (x ∷ xs) rest are =
    let regrouped : flat_map spell (x ∷ xs) ++ rest ≡ spell x ++ (flat_map spell xs ++ rest) = ap (λ y. y ++ rest) (flat_map-cons spell x xs) ∙ append_assoc (spell x) (flat_map spell xs) rest in
    ap (many_at one (suc (length xs)) total) regrouped ∙ rw (again x (flat_map spell xs ++ rest) are.0, many_again one spell P total again xs rest are.1) refl
