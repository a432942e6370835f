use Rattle.std.proofs.Common.{◌≡◌, map, take}
use Rattle.dory_chunks.specs.Marks.{mark_of}
use Rattle.dory_chunks.specs.Places.{places_of}
use Rattle.dory_chunks.proofs.version.Version.places.Given as goal

abbrev pub invariant-loop-at : goal.invariant-loop-at
invariant-loop-at l = l.all.items ≡ places_of (take l.at (map mark_of l.self.slots))
