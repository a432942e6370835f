use Rattle.dory_base.proofs.SameBits.{SameUpTo}
use Rattle.dory_base.proofs.bits.same_words.Given as goal

abbrev pub invariant-loop-i : goal.invariant-loop-i
invariant-loop-i l = SameUpTo l.i l.a.items l.b.items
