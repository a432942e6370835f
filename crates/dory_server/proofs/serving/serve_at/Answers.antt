use Rattle.std.proofs.Common.{rules}
use Rattle.dory_net.specs.declared.serving.ServeEnd.TheVariants as port
use Rattle.dory_server.specs.Served.{Counting}
use Rattle.dory_server.proofs.Served.{served_from}
use Rattle.dory_server.proofs.serving.serve_at.Goals as goal

pub returns-in-Sessions-clause-served : goal.returns-in-Sessions-clause-served
returns-in-Sessions-clause-served g c =
    let counting : Counting g.row.B-Door.Denot g.row.B-Door-From.Denot g.row.B-Door-To.Denot = record {
      tell = record { left = λ s. g.B.Door.From.Source.left s; given = λ s. g.B.Door.From.Source.given s; written = λ o. g.B.Door.To.Sink.written o };
      given = λ p. g.B.Door.Port.given p;
      faults = λ p. g.B.Door.Port.faults p;
    } in
    served_from counting (λ a. a.seat) c.args.opened c.args.seats.items c.as_mut_slice.result.now c.serve_lanes-end.new.lanes c.args.sessions port.Sessions c.requires.seats (search rules) c.in-Sessions.ensures.same c.in-Sessions.ensures.served c.in-Sessions.ensures.ended

pub returns-in-AcceptFault-clause-served : goal.returns-in-AcceptFault-clause-served
returns-in-AcceptFault-clause-served g c =
    let counting : Counting g.row.B-Door.Denot g.row.B-Door-From.Denot g.row.B-Door-To.Denot = record {
      tell = record { left = λ s. g.B.Door.From.Source.left s; given = λ s. g.B.Door.From.Source.given s; written = λ o. g.B.Door.To.Sink.written o };
      given = λ p. g.B.Door.Port.given p;
      faults = λ p. g.B.Door.Port.faults p;
    } in
    served_from counting (λ a. a.seat) c.args.opened c.args.seats.items c.as_mut_slice.result.now c.serve_lanes-end.new.lanes c.args.sessions port.AcceptFault c.requires.seats (search rules) c.in-AcceptFault.ensures.same c.in-AcceptFault.ensures.served c.in-AcceptFault.ensures.ended
