use Rattle.std.proofs.Common.{◌≡◌, ◌≤◌, All, List, length}
use Rattle.dory_shared.specs.Seen.{Seen}
use Rattle.dory_shared.proofs.opened.seats_at.Given as goal

abbrev pub invariant-loop-made : goal.invariant-loop-made
invariant-loop-made g l =
    (l.cabinets.items ≡ l.initial.cabinets.items) × All (λ (s : List Seen). s ≡ l.initial.cabinets.items) l.all.items × (length l.all.items ≡ l.made)
    × (g.P.PlaceMaker.faults l.initial.places ≤ g.P.PlaceMaker.faults l.places)
