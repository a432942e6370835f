use Rattle.std.proofs.Common.{rules, refl, inr}
use Rattle.dory_wire.specs.Frame.{frame_of}
use Rattle.dory_wire.specs.Spelling.{spelling_of_reply}
use Rattle.dory_together.proofs.seats.answer.Goals as goal

pub returns-clause-responds : goal.returns-clause-responds
returns-clause-responds g c = inr (
  frame_of (spelling_of_reply c.answer-reply.result),
  (
    c.in_ok-request.request,
    c.answer-reply.result,
    record {
      asked = search rules;
      ask = search rules;
      range = search rules;
      spelled = refl;
      answers = search rules;
    },
  ),
)
