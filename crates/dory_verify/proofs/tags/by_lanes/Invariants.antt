use Rattle.std.proofs.Common.{◌≡◌, ℕ, ◌<◌, ◌+◌, length, get_or, false}
use Rattle.dory_seal.specs.declared.cell.Cell.{Cell}
use Rattle.dory_verify.proofs.Going.{no_place}
use Rattle.dory_verify.proofs.tags.by_lanes.Given as goal

abbrev pub invariant-loop-i : goal.invariant-loop-i
invariant-loop-i l = (length l.cells ≡ 64) × ((k : ℕ) (d : Cell) → k < l.i → get_or l.cells k d ≡ record { doc = (get_or l.places k no_place).doc; id = (get_or l.places k no_place).id; column = l.column; cell = get_or l.bits (l.from + k) false })
