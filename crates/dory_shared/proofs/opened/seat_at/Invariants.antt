use Rattle.std.proofs.Common.{◌≡◌, ◌≤◌, take}
use Rattle.dory_shared.proofs.opened.seat_at.Given as goal

abbrev pub invariant-loop-at : goal.invariant-loop-at
invariant-loop-at g l =
    (l.cabinets.items ≡ l.initial.cabinets.items) × (l.all.items ≡ take l.at l.initial.cabinets.items)
    × (g.P.PlaceMaker.faults l.initial.places ≤ g.P.PlaceMaker.faults l.places)
