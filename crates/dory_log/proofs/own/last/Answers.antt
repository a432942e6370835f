use Rattle.std.proofs.Common.{arith}
use Rattle.std.proofs.lemmas.Bool.{eqb-false}
use Rattle.dory_log.proofs.OwnLaws.{last_at}
use Rattle.dory_log.proofs.own.last.Goals as goal

pub returns-else-is_empty : goal.returns-else-is_empty
returns-else-is_empty c = last_at c.args.own.now (record { serial = 0; number = 0 }) (λ e. grind (arith, eqb-false))
