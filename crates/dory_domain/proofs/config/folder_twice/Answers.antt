use Rattle.std.proofs.Common.{length, sym, ◌∙◌, arith}
use Rattle.dory_domain.specs.Config.{stands_earlier}
use Rattle.dory_domain.proofs.Lists.{first_number, no_number}
use Rattle.dory_domain.proofs.config.folder_twice.Goals as goal

pub returns-then-is_again : goal.returns-then-is_again
returns-then-is_again c = first_number (stands_earlier c.args.configs.now) (length c.args.configs.now) c.loop-place.place c.loop-place-test.true c.loop-place.invariant (sym c.is_again.ensures ∙ c.if-is_again.true)

pub returns : goal.returns
returns c = no_number (stands_earlier c.args.configs.now) (length c.args.configs.now) (λ k low. c.loop-place.invariant k (omega arith))
