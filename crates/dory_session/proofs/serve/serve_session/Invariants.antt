use Rattle.std.proofs.Common.{◌≤◌, List, ℕ}
use Rattle.dory_session.specs.Session.{around, IsUnderway}
use Rattle.dory_session.proofs.serve.serve_session.Given as goal

-- each message so far is answered, and what is held came after them
abbrev pub invariant-loop-answered : goal.invariant-loop-answered
invariant-loop-answered g l = record {
  underway : (messages : List (List ℕ)) × (frames : List (List ℕ)) × IsUnderway g.D.Answers.steps (around (g.D.Answers.seen l.fn.domain) (g.S.Source.left l.fn.input) (g.S.Source.given l.fn.input) (g.O.Sink.written l.fn.out)) (around (g.D.Answers.seen l.domain) (g.S.Source.left l.input) (g.S.Source.given l.input) (g.O.Sink.written l.out)) l.answered l.framer messages frames;
  source : g.S.Source.faults l.fn.input ≤ g.S.Source.faults l.input;
  sink : g.O.Sink.faults l.fn.out ≤ g.O.Sink.faults l.out;
}
