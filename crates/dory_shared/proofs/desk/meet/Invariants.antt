use Rattle.std.proofs.Common.{◌≡◌}
use Rattle.dory_shelf.specs.Published.{Grew}
use Rattle.dory_shared.specs.Seen.{knowing}
use Rattle.dory_shared.proofs.desk.meet.Given as goal

abbrev pub invariant-loop : goal.invariant-loop
invariant-loop g l =
    Grew l.initial.place.known l.place.known × Grew l.initial.cabinet.known l.place.known × (l.place ≡ knowing l.place.known l.initial.place)
