use Rattle.std.proofs.Common.{◌≡◌, true}
use Rattle.dory_shared.specs.Seen.{names_of}
use Rattle.dory_at_once.specs.Growing.{HaveGrown, updates_seen}
use Rattle.dory_at_once.proofs.reading.read_until.Given as goal

-- what was read last is what was seen
abbrev pub invariant-loop-turn : goal.invariant-loop-turn
invariant-loop-turn g l =
    (l.rising ≡ true) × (l.last ≡ updates_seen l.folder.0 l.seat) × HaveGrown l.fn.seat l.seat × (names_of l.seat ≡ names_of l.fn.seat)
