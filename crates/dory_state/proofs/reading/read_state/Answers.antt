use Rattle.std.proofs.Common.{subst, arith}
use Rattle.dory_state.specs.Reading.{Gives}
use Rattle.dory_state.proofs.States.{all_taken_by, in_ranges, spelled, state_again}
use Rattle.dory_state.proofs.reading.read_state.Goals as goal

pub returns-clause-range : goal.returns-clause-range
returns-clause-range c = in_ranges c.args.bytes.now c.state_in.result (all_taken_by c.args.bytes.now c.state_in.result (λ i. omega (arith, c.type_inv.bytes i)) c.state_in.ensures)

pub returns-clause-only : goal.returns-clause-only
returns-clause-only c = spelled c.args.bytes.now c.state_in.result (all_taken_by c.args.bytes.now c.state_in.result (λ i. omega (arith, c.type_inv.bytes i)) c.state_in.ensures)

pub returns-clause-every : goal.returns-clause-every
returns-clause-every c = λ s is spells. subst (Gives c.state_in.result) (state_again c.args.bytes.now s is spells) c.state_in.ensures
