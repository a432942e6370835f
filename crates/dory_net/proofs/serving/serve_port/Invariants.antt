use Rattle.std.proofs.Common.{ℕ, ◌≤◌}
use Rattle.dory_net.specs.Serving.{Telling}
use Rattle.dory_net.proofs.InTurn.{SoFar}
use Rattle.dory_net.proofs.serving.serve_port.Given as goal

abbrev pub invariant-loop : goal.invariant-loop
invariant-loop g l =
    let tell : Telling g.row.P-From.Denot g.row.P-To.Denot = record { left = λ s. g.P.From.Source.left s; given = λ s. g.P.From.Source.given s; written = λ o. g.P.To.Sink.written o } in
    record {
      served : SoFar g.D.Answers.steps tell (g.D.Answers.seen l.initial.domain) (g.D.Answers.seen l.domain) (g.P.Port.given l.initial.port) (g.P.Port.given l.port) l.counter;
      later : g.P.Port.faults l.initial.port ≤ g.P.Port.faults l.port;
    }

abbrev pub invariant-loop-2 : goal.invariant-loop-2
invariant-loop-2 g l =
    let tell : Telling g.row.P-From.Denot g.row.P-To.Denot = record { left = λ s. g.P.From.Source.left s; given = λ s. g.P.From.Source.given s; written = λ o. g.P.To.Sink.written o } in
    record {
      served : (n : ℕ) × SoFar g.D.Answers.steps tell (g.D.Answers.seen l.initial.domain) (g.D.Answers.seen l.domain) (g.P.Port.given l.initial.port) (g.P.Port.given l.port) n;
      later : g.P.Port.faults l.initial.port ≤ g.P.Port.faults l.port;
    }
