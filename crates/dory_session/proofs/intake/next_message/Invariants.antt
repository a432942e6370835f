use Rattle.std.proofs.Common.{◌≡◌, ◌≤◌, List, ℕ, length, ◌-◌, ◌++◌}
use Rattle.dory_io.specs.Bytes.{BytesRead}
use Rattle.dory_session.proofs.intake.next_message.Given as goal

-- what came since the call began is held after what was held then
abbrev pub invariant-loop-message : goal.invariant-loop-message
invariant-loop-message g l = record {
  more : (came : List ℕ) × BytesRead (g.S.Source.left l.fn.input) (g.S.Source.left l.input) (g.S.Source.given l.fn.input) (g.S.Source.given l.input) came × (l.framer ≡ l.fn.framer ++ came);
  later : g.S.Source.faults l.fn.input ≤ g.S.Source.faults l.input;
}

-- the bytes that a frame may still take
abbrev pub decreases-loop-message : goal.decreases-loop-message
decreases-loop-message g l = 1048580 - length l.framer
