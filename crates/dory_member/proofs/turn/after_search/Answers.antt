use Rattle.dory_member.proofs.Queries.{found_is}
use Rattle.dory_member.proofs.turn.after_search.Goals as goal

pub returns-in-Ok-clause-value : goal.returns-in-Ok-clause-value
returns-in-Ok-clause-value c = found_is _ c.args.query.now _ c.in-Ok.answer c.in-Ok.ensures
