-- The lines of a manifest: what is read is spelled so and rises, and what is spelled so is read.
use Rattle.std.proofs.Common.{◌≡◌, ℕ, zero, suc, ◌+◌, ◌^◌, ◌<◌, ◌≤◌, true, List, [], ◌∷◌, ◌++◌, length, map, Ok, refl, ap, subst, ◌∙◌, append_assoc, arith}
use Rattle.std.specs.List.{slice_index, flat_map, AllByRecursion}
use Rattle.std.specs.List.Sorted.{IsStrictlyIncreasing}
use Rattle.std.specs.Int.{w16, w32, to_be_bytes}
use Rattle.std.proofs.lemmas.List.Concat.{flat_map-cons}
use Rattle.dory_base.specs.declared.found.Place.{Place}
use Rattle.dory_fields.specs.Bytes.{IsBytes, four}
use Rattle.dory_fields.specs.Reading.{◌>>=◌, number_at, tested_at, ranged}
use Rattle.dory_fields.proofs.Fields.{bind_ok, ok_is, ranged_ok, in_range, range_met, Takes, Takes-then, wide16, wide32, number_takes, number_again, tested_takes, tested_again}
use Rattle.dory_wire.specs.Spelling.{id, line, IsLine}
use Rattle.dory_wire.specs.Reading.{id_at, is_slot, line_at, lines_at}
use Rattle.dory_wire.proofs.Fields.{id_takes, id_again}

-- slots that rise from this one on
abbrev pub Rises : ℕ → List Place → Type 0
Rises least [] = Unit {0}
Rises least (p ∷ ps) = (least ≤ p.slot) × Rises (p.slot + 1) ps

-- the first slot is this one or a later one
abbrev pub IsLeast : ℕ → List Place → Type 0
IsLeast least [] = Unit {0}
IsLeast least (p ∷ ps) = least ≤ p.slot

-- the slot at a place
abbrev slots : List Place → ℕ → ℕ
slots ps k = slice_index (map (λ p. p.slot) ps) k

pub rises_increase : (least : ℕ) (ps : List Place) → Rises least ps → IsStrictlyIncreasing (map (λ p. p.slot) ps)
rises_increase least [] h k lt = absurd (omega arith)
rises_increase least (p ∷ []) h k lt = absurd (omega arith)
rises_increase least (p ∷ q ∷ ps) h zero lt = omega (arith, h.1.0)
rises_increase least (p ∷ q ∷ ps) h (suc k) lt =
    let e : suc (k + 1) ≡ suc k + 1 = omega arith in
    subst (λ (j : ℕ). slots (p ∷ q ∷ ps) (suc k) < slots (p ∷ q ∷ ps) j) e (rises_increase (p.slot + 1) (q ∷ ps) h.1 k (omega arith))

pub increase_rises : (least : ℕ) (ps : List Place) → IsLeast least ps → IsStrictlyIncreasing (map (λ p. p.slot) ps) → Rises least ps
increase_rises least [] low h = tt
increase_rises least (p ∷ []) low h = (low, tt)
increase_rises least (p ∷ q ∷ ps) low h = (
  low,
  increase_rises (p.slot + 1) (q ∷ ps) (omega (arith, h 0 (omega arith))) (λ k lt.
      let e : suc k + 1 ≡ suc (k + 1) = omega arith in
      subst (λ (j : ℕ). slots (p ∷ q ∷ ps) (suc k) < slots (p ∷ q ∷ ps) j) e (h (suc k) (omega arith))),
)

pub line_takes : (least total : ℕ) (bytes : List ℕ) (x : Place × List ℕ) → IsBytes bytes → line_at least total bytes ≡ Ok x → Takes bytes (line x.0) x.1 × IsLine x.0 × (least ≤ x.0.slot)
unfolding line_at
line_takes least total bytes x fits e =
    let a = bind_ok (tested_at w16 (is_slot least) total bytes) (λ slot. number_at w32 total slot.1 >>= λ doc. id_at total doc.1 >>= λ id. Ok (record { slot = slot.0; doc = record { 0 = doc.0 }; id = id.0 }, id.1)) x e in
    let b = bind_ok (number_at w32 total a.0.1) (λ doc. id_at total doc.1 >>= λ id. Ok (record { slot = a.0.0; doc = record { 0 = doc.0 }; id = id.0 }, id.1)) x a.2 in
    let c = bind_ok (id_at total b.0.1) (λ id. Ok (record { slot = a.0.0; doc = record { 0 = b.0.0 }; id = id.0 }, id.1)) x b.2 in
    let t0 = tested_takes w16 (2 ^ 16) wide16 (is_slot least) total bytes a.0.0 a.0.1 fits a.1 in
    let t1 = number_takes w32 (2 ^ 32) wide32 total a.0.1 b.0.0 b.0.1 t0.0.rest_fits b.1 in
    let t2 = id_takes total b.0.1 c.0 t1.0.rest_fits c.1 in
    let range = in_range least 4095 a.0.0 t0.2 in
    let e01 = Takes-then bytes (to_be_bytes w16 a.0.0) a.0.1 (four b.0.0) b.0.1 t0.0 t1.0 in
    let e02 = Takes-then bytes (to_be_bytes w16 a.0.0 ++ four b.0.0) b.0.1 (id c.0.0) c.0.1 e01 t2.0 in
    let made : Place = record { slot = a.0.0; doc = record { 0 = b.0.0 }; id = c.0.0 } in
    let is : IsLine made = record { slot = omega (arith, range.1); doc = t1.1; member = t2.1.member; some = t2.1.some; serial = t2.1.serial } in
    subst (λ (y : Place × List ℕ). Takes bytes (line y.0) y.1 × IsLine y.0 × (least ≤ y.0.slot)) (ok_is (made, c.0.1) x c.2) (e02, is, range.0)

pub line_again : (least total : ℕ) (p : Place) (rest : List ℕ) → IsLine p → least ≤ p.slot → line_at least total (line p ++ rest) ≡ Ok (p, rest)
unfolding line_at
line_again least total p rest is low =
    let regrouped : line p ++ rest ≡ to_be_bytes w16 p.slot ++ (four p.doc.0 ++ (id p.id ++ rest)) = append_assoc (to_be_bytes w16 p.slot ++ four p.doc.0) (id p.id) rest ∙ append_assoc (to_be_bytes w16 p.slot) (four p.doc.0) (id p.id ++ rest) in
    let met : is_slot least p.slot ≡ true = range_met least 4095 p.slot low (omega (arith, is.slot)) in
    let slot = tested_again w16 (2 ^ 16) wide16 (is_slot least) total p.slot (four p.doc.0 ++ (id p.id ++ rest)) (omega (arith, is.slot)) met in
    let doc = number_again w32 (2 ^ 32) wide32 total p.doc.0 (id p.id ++ rest) is.doc in
    let name = id_again total p.id rest (record { member = is.member; some = is.some; serial = is.serial }) in
    ap (line_at least total) regrouped ∙ rw (slot, doc, name) refl

pub lines_take : (n least total : ℕ) (bytes : List ℕ) (x : List Place × List ℕ) → IsBytes bytes → lines_at n least total bytes ≡ Ok x
    → Takes bytes (flat_map line x.0) x.1 × (length x.0 ≡ n) × AllByRecursion IsLine x.0 × Rises least x.0
unfolding lines_at
lines_take zero least total bytes x fits e =
    subst (λ (y : List Place × List ℕ). Takes bytes (flat_map line y.0) y.1 × (length y.0 ≡ 0) × AllByRecursion IsLine y.0 × Rises least y.0) (ok_is ([], bytes) x e) (record { parts = refl; rest_fits = fits }, refl, tt, tt)
lines_take (suc n) least total bytes x fits e =
    let a = bind_ok (line_at least total bytes) (λ first. lines_at n (first.0.slot + 1) total first.1 >>= λ more. Ok (first.0 ∷ more.0, more.1)) x e in
    let b = bind_ok (lines_at n (a.0.0.slot + 1) total a.0.1) (λ more. Ok (a.0.0 ∷ more.0, more.1)) x a.2 in
    let first = line_takes least total bytes a.0 fits a.1 in
    let second = lines_take n (a.0.0.slot + 1) total a.0.1 b.0 first.0.rest_fits b.1 in
    let both = Takes-then bytes (line a.0.0) a.0.1 (flat_map line b.0.0) b.0.1 first.0 second.0 in
    let made : List Place × List ℕ = (a.0.0 ∷ b.0.0, b.0.1) in
    subst (λ (y : List Place × List ℕ). Takes bytes (flat_map line y.0) y.1 × (length y.0 ≡ suc n) × AllByRecursion IsLine y.0 × Rises least y.0) (ok_is made x b.2)
    (rw flat_map-cons both, ap suc second.1, (first.1, second.2), (first.2, second.3))

pub lines_again : (least total : ℕ) (ps : List Place) (rest : List ℕ) → AllByRecursion IsLine ps → Rises least ps → lines_at (length ps) least total (flat_map line ps ++ rest) ≡ Ok (ps, rest)
unfolding lines_at
lines_again least total [] rest are rises = refl
lines_again least total (p ∷ ps) rest are rises =
    let regrouped : flat_map line (p ∷ ps) ++ rest ≡ line p ++ (flat_map line ps ++ rest) = ap (λ (x : List ℕ). x ++ rest) (flat_map-cons line p ps) ∙ append_assoc (line p) (flat_map line ps) rest in
    ap (lines_at (suc (length ps)) least total) regrouped ∙ rw (line_again least total p (flat_map line ps ++ rest) are.0 rises.0, lines_again (p.slot + 1) total ps rest are.1 rises.1) refl

line_least : (least total : ℕ) (bytes : List ℕ) (x : Place × List ℕ) → line_at least total bytes ≡ Ok x → least ≤ x.0.slot
unfolding line_at tested_at
line_least least total bytes x e =
    let a = bind_ok (tested_at w16 (is_slot least) total bytes) (λ slot. number_at w32 total slot.1 >>= λ doc. id_at total doc.1 >>= λ id. Ok (record { slot = slot.0; doc = record { 0 = doc.0 }; id = id.0 }, id.1)) x e in
    let b = bind_ok (number_at w32 total a.0.1) (λ doc. id_at total doc.1 >>= λ id. Ok (record { slot = a.0.0; doc = record { 0 = doc.0 }; id = id.0 }, id.1)) x a.2 in
    let c = bind_ok (id_at total b.0.1) (λ id. Ok (record { slot = a.0.0; doc = record { 0 = b.0.0 }; id = id.0 }, id.1)) x b.2 in
    let made : Place × List ℕ = (record { slot = a.0.0; doc = record { 0 = b.0.0 }; id = c.0.0 }, c.0.1) in
    let n = bind_ok (number_at w16 total bytes) (λ n. ranged total bytes (is_slot least n.0) n) a.0 a.1 in
    let g = ranged_ok total bytes (is_slot least n.0.0) n.0 a.0 n.2 in
    let low : least ≤ n.0.0 = (in_range least 4095 n.0.0 g.0).0 in
    subst (λ (y : Place × List ℕ). least ≤ y.0.slot) (ok_is made x c.2) (subst (λ (y : ℕ × List ℕ). least ≤ y.0) g.1 low)

lines_rise : (n least total : ℕ) (bytes : List ℕ) (x : List Place × List ℕ) → lines_at n least total bytes ≡ Ok x → Rises least x.0
unfolding lines_at
lines_rise zero least total bytes x e = subst (λ (y : List Place × List ℕ). Rises least y.0) (ok_is ([], bytes) x e) tt
lines_rise (suc n) least total bytes x e =
    let a = bind_ok (line_at least total bytes) (λ first. lines_at n (first.0.slot + 1) total first.1 >>= λ more. Ok (first.0 ∷ more.0, more.1)) x e in
    let b = bind_ok (lines_at n (a.0.0.slot + 1) total a.0.1) (λ more. Ok (a.0.0 ∷ more.0, more.1)) x a.2 in
    let made : List Place × List ℕ = (a.0.0 ∷ b.0.0, b.0.1) in
    subst (λ (y : List Place × List ℕ). Rises least y.0) (ok_is made x b.2) (line_least least total bytes a.0 a.1, lines_rise n (a.0.0.slot + 1) total a.0.1 b.0 b.1)

-- lines that were read have rising slots
pub lines_increase : (n least total : ℕ) (bytes : List ℕ) (x : List Place × List ℕ) → lines_at n least total bytes ≡ Ok x → IsStrictlyIncreasing (map (λ p. p.slot) x.0)
lines_increase n least total bytes x e = rises_increase least x.0 (lines_rise n least total bytes x e)
