use Rattle.std.proofs.Common.{◌≡◌, ◌≤◌, ◌++◌, All, map}
use Rattle.dory_shared.specs.Seen.{names_of}
use Rattle.dory_server.proofs.serving.lanes_of.Given as goal

abbrev pub invariant-loop-seat : goal.invariant-loop-seat
invariant-loop-seat g l =
    (map (λ l'. l'.answers.seat) l.lanes.items ++ l.seat-iterator.rest.items ≡ l.fn.seats.items)
    × All (λ s. names_of s ≡ g.J.Names.names) l.seat-iterator.rest.items
    × (g.B.Binder.bound l.binder ≡ g.B.Binder.bound l.fn.binder)
    × (g.B.Binder.faults l.fn.binder ≤ g.B.Binder.faults l.binder)
