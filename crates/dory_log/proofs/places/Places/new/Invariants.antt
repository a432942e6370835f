use Rattle.std.proofs.Common.{◌≡◌, replicate, map, None}
use Rattle.std.specs.Option.{option_map}
use Rattle.std.specs.Arc.{arc_value}
use Rattle.dory_log.proofs.places.Places.new.Given as goal

abbrev pub invariant-loop : goal.invariant-loop
invariant-loop l = map (option_map arc_value) l.places.items ≡ replicate l.counter None
