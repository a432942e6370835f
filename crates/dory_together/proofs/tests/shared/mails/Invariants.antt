use Rattle.std.proofs.Common.{◌≡◌}
use Rattle.dory_shared.specs.Seen.{names_of}
use Rattle.dory_together.proofs.tests.shared.mails.Given as goal

abbrev pub invariant-loop-pair : goal.invariant-loop-pair
invariant-loop-pair g l =
    (names_of l.first.lead ≡ g.J.Names.names) × (names_of l.first.follow ≡ g.K.Names.names) × (names_of l.second.lead ≡ g.J.Names.names) × (names_of l.second.follow ≡ g.K.Names.names)
