-- Reading the lines of a manifest one after the other, as a loop does.
use Rattle.std.proofs.Common.{◌≡◌, ℕ, suc, ◌-◌, ◌+◌, ◌≤◌, ◌<◌, List, [], ◌∷◌, ◌++◌, Ok, Err, refl, sym, ap, ◌∙◌, arith}
use Rattle.std.proofs.lemmas.List.{append-nil}
use Rattle.dory_base.specs.declared.found.Place.{Place}
use Rattle.dory_fields.specs.declared.fault.FieldFault.{FieldFault}
use Rattle.dory_fields.specs.Left.{Left}
use Rattle.dory_fields.specs.Reading.{Fails}
use Rattle.dory_fields.proofs.Many.{with_front, regroup, nothing_before, fails_all}
use Rattle.dory_wire.specs.Reading.{line_at, lines_at}

-- a reader that began at `start` stands at `now`, with i of so many lines read and slots from this one on
pub record ReadsLines (front : List Place) (count i least : ℕ) (start now : Left) : Type 0 where
  pub total : now.total ≡ start.total
  pub made : with_front front (lines_at (count - i) least now.total now.rest) ≡ lines_at count 0 start.total start.rest

pub lines_begin : (count : ℕ) (start : Left) → ReadsLines [] count 0 0 start start
lines_begin count start =
    let all : count - 0 ≡ count = omega arith in
    record { total = refl; made = rw all (nothing_before (lines_at count 0 start.total start.rest)) }

pub lines_go : (front : List Place) (count i least : ℕ) (start now next : Left) (p : Place) → i < count → (next.total ≡ now.total) × (line_at least now.total now.rest ≡ Ok (p, next.rest))
    → ReadsLines front count i least start now → ReadsLines (front ++ p ∷ []) count (i + 1) (p.slot + 1) start next
unfolding lines_at
lines_go front count i least start now next p lt took so_far =
    let k : count - i ≡ suc (count - (i + 1)) = omega arith in
    let step : with_front front (lines_at (count - i) least now.total now.rest) ≡ with_front (front ++ p ∷ []) (lines_at (count - (i + 1)) (p.slot + 1) now.total next.rest) = rw (k, took.1) (regroup front p (lines_at (count - (i + 1)) (p.slot + 1) now.total next.rest)) in
    record {
      total = took.0 ∙ so_far.total;
      made = rw took.0 (sym step ∙ so_far.made);
    }

pub lines_fail : (e : FieldFault) (front : List Place) (count i least : ℕ) (start now next : Left) → i < count → (next.total ≡ now.total) × Fails e (line_at least now.total now.rest)
    → ReadsLines front count i least start now → (next.total ≡ start.total) × Fails e (lines_at count 0 start.total start.rest)
unfolding lines_at
lines_fail e front count i least start now next lt took so_far =
    let k : count - i ≡ suc (count - (i + 1)) = omega arith in (
      took.0 ∙ so_far.total,
      fails_all e (line_at least now.total now.rest) (lines_at count 0 start.total start.rest) (λ f h.
          let step : with_front front (lines_at (count - i) least now.total now.rest) ≡ Err f = rw (k, h) refl in
          sym so_far.made ∙ step) took.1,
    )

pub lines_done : (front : List Place) (count i least : ℕ) (start now : Left) → count ≤ i → ReadsLines front count i least start now
    → (now.total ≡ start.total) × (lines_at count 0 start.total start.rest ≡ Ok (front, now.rest))
unfolding lines_at
lines_done front count i least start now le so_far =
    let k : count - i ≡ 0 = omega arith in
    let step : with_front front (lines_at (count - i) least now.total now.rest) ≡ Ok (front, now.rest) = rw k (ap (λ xs. Ok (xs, now.rest)) (append-nil front)) in
    (so_far.total, sym so_far.made ∙ step)
