use Rattle.std.proofs.Common.{rules}
use Rattle.dory_net.proofs.serving.serve_next.Goals as goal

pub returns-clause-served : goal.returns-clause-served
returns-clause-served g c = (
  record {
    input = c.in_ok-input.input;
    input_after = c.serve_session.new.input;
    out = c.in_ok-input.out;
    out_after = c.serve_session.new.out;
    end = c.serve_session.result;
  },
  search rules,
)
