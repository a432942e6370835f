use Rattle.std.proofs.Common.{◌≡◌, ℕ, ◌<◌, get_or}
use Rattle.dory_base.proofs.entry.Tags.same.Given as goal

abbrev pub invariant-loop-i : goal.invariant-loop-i
invariant-loop-i l = (k : ℕ) → k < l.i → get_or l.self-inside.tags.items k 0 ≡ get_or l.other-inside.tags.items k 0
