-- What an operation brings.
use Rattle.std.specs.Prelude.{◌≡◌}
use Rattle.std.specs.Arc.{arc_value}
use Rattle.dory_base.specs.TableMeaning.{kept_of}
use Rattle.dory_base.specs.declared.event.Event.{Event}
use Rattle.dory_base.specs.declared.event.Event.TheVariants as event
use Rattle.dory_shelf.specs.Published.{Published, history_of}
use Rattle.dory_shelf.specs.declared.op.ShelfOp.{ShelfOp}
use Rattle.dory_shelf.specs.declared.op.ShelfOp.TheVariants.{Staged, Appended}

-- the operation that it is
abbrev pub event_of : ShelfOp → Event
event_of (Staged e) = event.Staged (arc_value e)
event_of (Appended id v) = event.Appended id

-- its version, if it has one, stands for exactly the updates that this history has appended
abbrev pub StandsAt : Published → ShelfOp → Type 0
StandsAt h (Staged e) = Unit {0}
StandsAt h (Appended id v) = arc_value v ≡ kept_of h.shelf.shape (history_of h)
