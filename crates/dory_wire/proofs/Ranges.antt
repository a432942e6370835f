-- Ends of messages, and how wide rows are.
use Rattle.std.proofs.Common.{◌≡◌, ℕ, ◌^◌, ◌≤◌, Bool, true, false, cond, eqb, List, [], length, Result, Ok, Err, refl, ap}
use Rattle.std.proofs.lemmas.Bool.{eqb-true}
use Rattle.std.proofs.Math.Pow.{pow_mono}
use Rattle.std.proofs.lemmas.List.{nil_from_length}
use Rattle.dory_fields.specs.Reading.{Read, place}
use Rattle.dory_wire.specs.declared.fault.WireFault.{WireFault}
use Rattle.dory_wire.specs.declared.fault.WireFault.TheVariants.{Trailing}
use Rattle.dory_wire.specs.Reading.{ended}

-- the branch that was taken, where the other one is a fault
pub choice_met : {A : Type 0} (b : Bool) (d : WireFault) (x : Result A WireFault) (y : A) → cond b x (Err d) ≡ Ok y → (b ≡ true) × (x ≡ Ok y)
choice_met true d x y e = (refl, e)
choice_met false d x y e = absurd cc

-- a value that nothing follows
pub ended_ok : {A : Type 0} (total : ℕ) (read : Read A) (y : A) → ended total read ≡ Ok y → (rest : List ℕ) × (read ≡ Ok (y, rest)) × (rest ≡ [])
ended_ok total (Err e) y h = absurd cc
ended_ok total (Ok x) y h =
    let g = choice_met (eqb (length x.1) 0) (Trailing (place total x.1)) (Ok x.0) y h in
    (x.1, ap (λ v. Ok (v, x.1)) (value x.0 y g.1), nil_from_length x.1 (eqb-true _ _ g.0))
  where
    value : {A : Type 0} (x y : A) → ◌≡◌ {A = Result A WireFault} (Ok x) (Ok y) → x ≡ y
    value x y e = cc

-- a row of a depth up to 11 has at most 2,048 columns
pub narrow : (depth : ℕ) → depth ≤ 11 → 2 ^ depth ≤ 2048
narrow depth high = pow_mono {i = depth} {j = 11} high
