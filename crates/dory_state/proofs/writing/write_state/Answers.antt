use Rattle.std.proofs.Common.{ap, ◌∙◌}
use Rattle.dory_state.specs.Reading.{state_of}
use Rattle.dory_state.proofs.States.{written_again}
use Rattle.dory_state.proofs.writing.write_state.Goals as goal

pub returns-in-Ok-clause-read_back : goal.returns-in-Ok-clause-read_back
returns-in-Ok-clause-read_back c = ap state_of c.in-Ok.ensures ∙ written_again c.args.state.now c.requires
