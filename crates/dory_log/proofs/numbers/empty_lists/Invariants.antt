use Rattle.std.proofs.Common.{◌≡◌, ℕ, [], length}
use Rattle.dory_log.specs.Own.{own_at}
use Rattle.dory_log.proofs.numbers.empty_lists.Given as goal

abbrev pub invariant-loop : goal.invariant-loop
invariant-loop l = (length l.lists.items ≡ l.counter) × ((m : ℕ) → own_at l.lists.items m ≡ [])
