use Rattle.std.proofs.Common.{rules, refl, inr}
use Rattle.dory_wire.specs.Frame.{frame_of}
use Rattle.dory_wire.specs.Spelling.{spelling_of_reply}
use Rattle.dory_domain.proofs.domain_core.DomainCore.answer.Goals as goal

pub returns : goal.returns
returns g c = inr (
  frame_of (spelling_of_reply c.step-reply.result),
  (
    c.in_ok-request.request,
    c.step-reply.result,
    record {
      asked = search rules;
      ask = search rules;
      range = search rules;
      spelled = refl;
      step = search rules;
      held = search rules;
      unchanged = search rules;
    },
  ),
)
