-- What is made of an id, of a number and an id, and of a length: it is read as it is spelled.
use Rattle.std.proofs.Common.{◌≡◌, ◌∙◌, ℕ, suc, ◌^◌, ◌≤◌, Bool, true, false, cond, eqb, List, ◌++◌, Result, Ok, inl, inr, refl, sym, ap, subst, append_assoc, arith}
use Rattle.std.specs.Int.{w32}
use Rattle.std.proofs.lemmas.Bool.{cases_lt, eqb-true, eq-eqb}
use Rattle.dory_base.specs.declared.ids.UpdateId.{UpdateId}
use Rattle.dory_fields.specs.Bytes.{four, IsBytes}
use Rattle.dory_fields.specs.Reading.{◌>>=◌, tested_at}
use Rattle.dory_fields.proofs.Fields.{in_range, range_met, bind_ok, ok_is, Takes, Takes-then, wide32, tested_takes, tested_again}
use Rattle.dory_fields.specs.declared.fault.FieldFault.{FieldFault}
use Rattle.dory_wire.specs.Spelling.{id, IsId, IsNumber}
use Rattle.dory_wire.specs.Reading.{id_at, named_at, numbered_at, counted_at, is_count, is_number}
use Rattle.dory_wire.proofs.Fields.{id_takes, id_again}

pub number_range : (n : ℕ) → is_number n ≡ true → IsNumber n
number_range n e =
    let p = in_range 1 1048576 n e in
    record { some = p.0; few = p.1 }

pub number_met : (n : ℕ) → IsNumber n → is_number n ≡ true
number_met n is = range_met 1 1048576 n is.some is.few

-- ---- an id

pub named_takes : {A : Type 0} (make : UpdateId → A) (P : A × List ℕ → Type 0) (total : ℕ) (bytes : List ℕ) (x : A × List ℕ) → IsBytes bytes → named_at make total bytes ≡ Ok x
    → ((name : UpdateId) (rest : List ℕ) → Takes bytes (id name) rest → IsId name → P (make name, rest)) → P x
unfolding named_at
named_takes make P total bytes x fits e so =
    let a = bind_ok (id_at total bytes) (λ name. Ok (make name.0, name.1)) x e in
    let t = id_takes total bytes a.0 fits a.1 in
    subst P (ok_is (make a.0.0, a.0.1) x a.2) (so a.0.0 a.0.1 t.0 t.1)

pub named_again : {A : Type 0} (make : UpdateId → A) (total : ℕ) (name : UpdateId) (rest : List ℕ) → IsId name → named_at make total (id name ++ rest) ≡ Ok (make name, rest)
unfolding named_at
named_again make total name rest is = rw (id_again total name rest is) refl

-- ---- a number and an id

pub numbered_takes : {A : Type 0} (make : ℕ → UpdateId → A) (P : A × List ℕ → Type 0) (total : ℕ) (bytes : List ℕ) (x : A × List ℕ) → IsBytes bytes → numbered_at make total bytes ≡ Ok x
    → ((number : ℕ) (name : UpdateId) (rest : List ℕ) → Takes bytes (four number ++ id name) rest → IsNumber number × IsId name → P (make number name, rest)) → P x
unfolding numbered_at
numbered_takes make P total bytes x fits e so =
    let a = bind_ok (tested_at w32 is_number total bytes) (λ number. id_at total number.1 >>= λ name. Ok (make number.0 name.0, name.1)) x e in
    let b = bind_ok (id_at total a.0.1) (λ name. Ok (make a.0.0 name.0, name.1)) x a.2 in
    let t0 = tested_takes w32 (2 ^ 32) wide32 is_number total bytes a.0.0 a.0.1 fits a.1 in
    let t1 = id_takes total a.0.1 b.0 t0.0.rest_fits b.1 in
    subst P (ok_is (make a.0.0 b.0.0, b.0.1) x b.2) (so a.0.0 b.0.0 b.0.1 (Takes-then bytes (four a.0.0) a.0.1 (id b.0.0) b.0.1 t0.0 t1.0) (number_range a.0.0 t0.2, t1.1))

pub numbered_again : {A : Type 0} (make : ℕ → UpdateId → A) (total number : ℕ) (name : UpdateId) (rest : List ℕ) → IsNumber number × IsId name → numbered_at make total ((four number ++ id name) ++ rest) ≡ Ok (make number name, rest)
unfolding numbered_at
numbered_again make total number name rest is =
    let first = tested_again w32 (2 ^ 32) wide32 is_number total number (id name ++ rest) (omega (arith, is.0.few)) (number_met number is.0) in
    ap (numbered_at make total) (append_assoc (four number) (id name) rest) ∙ rw (first, id_again total name rest is.1) refl

-- ---- a length

pub counted_takes : {A : Type 0} (make : ℕ → A) (P : A × List ℕ → Type 0) (total : ℕ) (bytes : List ℕ) (x : A × List ℕ) → IsBytes bytes → counted_at make total bytes ≡ Ok x
    → ((n : ℕ) (rest : List ℕ) → Takes bytes (four n) rest → n ≤ 1048576 → P (make n, rest)) → P x
unfolding counted_at
counted_takes make P total bytes x fits e so =
    let a = bind_ok (tested_at w32 is_count total bytes) (λ length. Ok (make length.0, length.1)) x e in
    let t = tested_takes w32 (2 ^ 32) wide32 is_count total bytes a.0.0 a.0.1 fits a.1 in
    subst P (ok_is (make a.0.0, a.0.1) x a.2) (so a.0.0 a.0.1 t.0 (in_range 0 1048576 a.0.0 t.2).1)

pub counted_again : {A : Type 0} (make : ℕ → A) (total n : ℕ) (rest : List ℕ) → n ≤ 1048576 → counted_at make total (four n ++ rest) ≡ Ok (make n, rest)
unfolding counted_at
counted_again make total n rest is = rw (tested_again w32 (2 ^ 32) wide32 is_count total n rest (omega (arith, is)) (range_met 0 1048576 n (omega arith) is)) refl

-- ---- what is read by a number that says which

which_branch : {A : Type 0} (n k : ℕ) (P : ℕ → Type 0) (x y : Result A FieldFault) (z : A) (b : Bool) → eqb n k ≡ b → k ≤ n → (x ≡ Ok z → P k) → (suc k ≤ n → y ≡ Ok z → P n) → cond b x y ≡ Ok z → P n
which_branch n k P x y z true q le one more e = subst P (sym (eqb-true n k q)) (one e)
which_branch n k P x y z false q le one more e =
    elim (cases_lt k n) [
      | inl lt ↦ more lt e
      | inr ge ↦
          let same : eqb n k ≡ true = eq-eqb n k (omega (arith, le, ge)) in
          let wrong : true ≡ false = sym same ∙ q in
          absurd cc
    ]

-- the number is this one, or a later one
pub by_number : {A : Type 0} (n k : ℕ) (P : ℕ → Type 0) (x y : Result A FieldFault) (z : A) → k ≤ n → (x ≡ Ok z → P k) → (suc k ≤ n → y ≡ Ok z → P n) → cond (eqb n k) x y ≡ Ok z → P n
by_number n k P x y z le one more e = which_branch n k P x y z (eqb n k) refl le one more e

-- the number is the last one
pub at_last : (n k : ℕ) (P : ℕ → Type 0) → k ≤ n → n ≤ k → P k → P n
at_last n k P low high p =
    let same : k ≡ n = omega (arith, low, high) in
    subst P same p
