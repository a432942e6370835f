-- What is pending: what is read is spelled so, and what is spelled so is read.
use Rattle.std.proofs.Common.{◌≡◌, ℕ, zero, suc, ◌-◌, ◌<◌, ◌≤◌, ◌^◌, Bool, false, cond, ◌==◌, List, [], ◌∷◌, ◌++◌, length, Option, Some, None, Ok, refl, sym, ap, subst, ◌∙◌, append-nil, arith}
use Rattle.std.specs.Prelude.{IfSome}
use Rattle.std.proofs.Math.Dec.{eqb-suc-zero}
use Rattle.std.specs.Int.{w32, w64, is_in_range}
use Rattle.dory_base.specs.Dims.{Dims, column_count}
use Rattle.dory_fields.specs.Bytes.{IsBytes, eight, four}
use Rattle.dory_fields.specs.Packing.{packed}
use Rattle.dory_fields.specs.Reading.{◌>>=◌, Read, bits_at, byte_at, number_at, tested_at}
use Rattle.dory_fields.proofs.Fields.{Takes, Takes-then, bind_ok, byte_takes, in_range, number_again, number_takes, ok_is, range_met, tested_again, tested_takes, wide32, wide64}
use Rattle.dory_fields.proofs.Packing.{bits_again, bits_take}
use Rattle.dory_state.specs.declared.kept.Pending.{Pending}
use Rattle.dory_state.specs.Spelling.{IsPending, cells, kind, pending}
use Rattle.dory_state.specs.Reading.{pending_at, row_at, update_at}

-- ---- a row

abbrev IsRow : Dims → Option (List Bool) → Type 0
IsRow shape row = IfSome row (λ r. length r ≡ column_count shape)

row_takes : (shape : Dims) (k total : ℕ) (bytes : List ℕ) (x : Option (List Bool) × List ℕ) → 1 ≤ k → k ≤ 2 → IsBytes bytes → row_at shape k total bytes ≡ Ok x
    → Takes bytes (cells x.0) x.1 × (kind x.0 ≡ k) × IsRow shape x.0
unfolding row_at
row_takes shape zero total bytes x some few fits e = absurd (omega arith)
row_takes shape (suc zero) total bytes x some few fits e =
    let b = bind_ok (bits_at (column_count shape) total bytes) (λ row. Ok (Some row.0, row.1)) x e in
    let t = bits_take (column_count shape) total bytes b.0 fits b.1 in
    subst (λ (y : Option (List Bool) × List ℕ). Takes bytes (cells y.0) y.1 × (kind y.0 ≡ 1) × IsRow shape y.0) (ok_is (Some b.0.0, b.0.1) x b.2) (t.0, refl, t.1)
row_takes shape (suc (suc zero)) total bytes x some few fits e =
    subst (λ (y : Option (List Bool) × List ℕ). Takes bytes (cells y.0) y.1 × (kind y.0 ≡ 2) × IsRow shape y.0) (ok_is (None, bytes) x e) (record { parts = refl; rest_fits = fits }, refl, tt)
row_takes shape (suc (suc (suc k))) total bytes x some few fits e = absurd (omega arith)

row_at_again : (shape : Dims) (total : ℕ) (row : Option (List Bool)) → IsRow shape row → row_at shape (kind row) total (cells row) ≡ Ok (row, [])
unfolding row_at
row_at_again shape total (Some row) is =
    ap (λ (b : List ℕ). bits_at (column_count shape) total b >>= λ r. Ok (Some r.0, r.1)) (sym (append-nil (packed row))) ∙ rw (bits_again (column_count shape) total row [] is) refl
row_at_again shape total None is = refl

-- ---- an update

abbrev update_text : Pending → List ℕ
update_text p = eight p.serial ++ (four p.doc.0 ++ cells p.row)

taken_update : (bytes : List ℕ) (shape : Dims) (next k : ℕ) (made x : Pending × List ℕ) → made ≡ x → Takes bytes (update_text made.0) made.1 → kind made.0.row ≡ k → IsPending shape next made.0
    → Takes bytes (update_text x.0) x.1 × (kind x.0.row ≡ k) × IsPending shape next x.0
taken_update bytes shape next k made x e takes kinds is = subst (λ (y : Pending × List ℕ). Takes bytes (update_text y.0) y.1 × (kind y.0.row ≡ k) × IsPending shape next y.0) e (takes, kinds, is)

update_takes : (shape : Dims) (next k total : ℕ) (bytes : List ℕ) (x : Pending × List ℕ) → 1 ≤ next → 1 ≤ k → k ≤ 2 → IsBytes bytes → update_at shape next k total bytes ≡ Ok x
    → Takes bytes (update_text x.0) x.1 × (kind x.0.row ≡ k) × IsPending shape next x.0
unfolding update_at
update_takes shape next k total bytes x from some few fits e =
    let a = bind_ok (tested_at w64 (is_in_range 1 (next - 1)) total bytes) (λ serial. number_at w32 total serial.1 >>= λ doc. row_at shape k total doc.1 >>= λ row. Ok (record { serial = serial.0; doc = record { 0 = doc.0 }; row = row.0 }, row.1)) x e in
    let b = bind_ok (number_at w32 total a.0.1) (λ doc. row_at shape k total doc.1 >>= λ row. Ok (record { serial = a.0.0; doc = record { 0 = doc.0 }; row = row.0 }, row.1)) x a.2 in
    let c = bind_ok (row_at shape k total b.0.1) (λ row. Ok (record { serial = a.0.0; doc = record { 0 = b.0.0 }; row = row.0 }, row.1)) x b.2 in
    let t0 = tested_takes w64 (2 ^ 64) wide64 (is_in_range 1 (next - 1)) total bytes a.0.0 a.0.1 fits a.1 in
    let t1 = number_takes w32 (2 ^ 32) wide32 total a.0.1 b.0.0 b.0.1 t0.0.rest_fits b.1 in
    let t2 = row_takes shape k total b.0.1 c.0 some few t1.0.rest_fits c.1 in
    let serial = in_range 1 (next - 1) a.0.0 t0.2 in
    let e12 = Takes-then a.0.1 (four b.0.0) b.0.1 (cells c.0.0) c.0.1 t1.0 t2.0 in
    let e02 = Takes-then bytes (eight a.0.0) a.0.1 (four b.0.0 ++ cells c.0.0) c.0.1 t0.0 e12 in
    let made : Pending × List ℕ = (record { serial = a.0.0; doc = record { 0 = b.0.0 }; row = c.0.0 }, c.0.1) in
    let fit : IsPending shape next made.0 = record { serial = serial.0; past = omega (arith, serial.1, from); doc = t1.1; row = t2.2 } in
    taken_update bytes shape next k made x (ok_is made x c.2) e02 t2.1 fit

update_again : (shape : Dims) (next total : ℕ) (p : Pending) → next < 2 ^ 64 → IsPending shape next p → update_at shape next (kind p.row) total (update_text p) ≡ Ok (p, [])
unfolding update_at
update_again shape next total p lt is =
    let early : p.serial ≤ next - 1 = omega (arith, is.past) in
    let serial = tested_again w64 (2 ^ 64) wide64 (is_in_range 1 (next - 1)) total p.serial (four p.doc.0 ++ cells p.row) (omega (arith, is.past, lt)) (range_met 1 (next - 1) p.serial is.serial early) in
    let doc = number_again w32 (2 ^ 32) wide32 total p.doc.0 (cells p.row) is.doc in
    let row = row_at_again shape total p.row is.row in
    rw (serial, doc, row) refl

-- ---- what is pending

abbrev ArePending : Dims → ℕ → Option Pending → Type 0
ArePending shape next p = IfSome p (IsPending shape next)

kind_takes : (shape : Dims) (next k total : ℕ) (rest : List ℕ) (x : Option Pending × List ℕ) → 1 ≤ next → k ≤ 2 → IsBytes rest
    → cond (k == 0) (Ok (None, rest)) (update_at shape next k total rest >>= λ p. Ok (Some p.0, p.1)) ≡ Ok x
    → ((text : List ℕ) × (k ∷ text ≡ pending x.0) × Takes rest text x.1) × ArePending shape next x.0
kind_takes shape next zero total rest x from few fits e =
    subst (λ (y : Option Pending × List ℕ). ((text : List ℕ) × (0 ∷ text ≡ pending y.0) × Takes rest text y.1) × ArePending shape next y.0) (ok_is (None, rest) x e) (([], refl, record { parts = refl; rest_fits = fits }), tt)
kind_takes shape next (suc k) total rest x from few fits e =
    let update : Read (Option Pending) = update_at shape next (suc k) total rest >>= λ p. Ok (Some p.0, p.1) in
    let some : update ≡ Ok x = subst (λ (z : Bool). cond z (Ok (None, rest)) update ≡ Ok x) (eqb-suc-zero k) e in
    let b = bind_ok (update_at shape next (suc k) total rest) (λ p. Ok (Some p.0, p.1)) x some in
    let t = update_takes shape next (suc k) total rest b.0 from (omega arith) few fits b.1 in
    subst (λ (y : Option Pending × List ℕ). ((text : List ℕ) × (suc k ∷ text ≡ pending y.0) × Takes rest text y.1) × ArePending shape next y.0) (ok_is (Some b.0.0, b.0.1) x b.2)
    ((update_text b.0.0, ap (λ (n : ℕ). n ∷ update_text b.0.0) (sym t.1), t.0), t.2)

pub pending_takes : (shape : Dims) (next total : ℕ) (bytes : List ℕ) (x : Option Pending × List ℕ) → 1 ≤ next → IsBytes bytes → pending_at shape next total bytes ≡ Ok x
    → Takes bytes (pending x.0) x.1 × IfSome x.0 (IsPending shape next)
unfolding pending_at
pending_takes shape next total bytes x from fits e =
    let a = bind_ok (byte_at (is_in_range 0 2) total bytes) (λ k. cond (k.0 == 0) (Ok (None, k.1)) (update_at shape next k.0 total k.1 >>= λ p. Ok (Some p.0, p.1))) x e in
    let t = byte_takes (is_in_range 0 2) total bytes a.0.0 a.0.1 fits a.1 in
    let u = kind_takes shape next a.0.0 total a.0.1 x from (in_range 0 2 a.0.0 t.1).1 t.0.rest_fits a.2 in
    (subst (λ (text : List ℕ). Takes bytes text x.1) {x = a.0.0 ∷ u.0.0} {y = pending x.0} u.0.1 (Takes-then bytes (a.0.0 ∷ []) a.0.1 u.0.0 x.1 t.0 u.0.2), u.1)

kind_again : (total : ℕ) (row : Option (List Bool)) (rest : List ℕ) → (byte_at (is_in_range 0 2) total (kind row ∷ rest) ≡ Ok (kind row, rest)) × ((kind row == 0) ≡ false)
unfolding byte_at
kind_again total (Some row) rest = (refl, refl)
kind_again total None rest = (refl, refl)

none_again : (total : ℕ) → byte_at (is_in_range 0 2) total (0 ∷ []) ≡ Ok (0, [])
unfolding byte_at
none_again total = refl

pub pending_again : (shape : Dims) (next total : ℕ) (p : Option Pending) → next < 2 ^ 64 → IfSome p (IsPending shape next) → pending_at shape next total (pending p) ≡ Ok (p, [])
unfolding pending_at
pending_again shape next total None lt is = rw (none_again total) refl
pending_again shape next total (Some p) lt is =
    let k = kind_again total p.row (update_text p) in
    let u = update_again shape next total p lt is in
    rw (k.0, k.1, u) refl
