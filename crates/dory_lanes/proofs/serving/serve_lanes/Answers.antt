use Rattle.dory_lanes.specs.Lanes.{IsLaneServed}
use Rattle.dory_lanes.proofs.Moved.{moved}
use Rattle.dory_lanes.proofs.serving.serve_lanes.Goals as goal

pub returns-clause-served : goal.returns-clause-served
returns-clause-served g c = λ i d h.
    let k = (c.for_each_mut.ensures i d h).1 in
    moved (IsLaneServed g.D.Answers.steps (record { seen = λ a. g.D.Answers.seen a; left = λ s. g.P.From.Source.left s; given = λ s. g.P.From.Source.given s; written = λ o. g.P.To.Sink.written o; handed = λ p. g.P.Port.given p; faults = λ p. g.P.Port.faults p }) c.args.sessions) _ _ _ _ k.argument_is k.left k.call
