use Rattle.std.proofs.Common.{refl}
use Rattle.dory_member.proofs.Queries.{query_is, query_range}
use Rattle.dory_member.proofs.turn.searching.Goals as goal

pub returns-clause-value : goal.returns-clause-value
returns-clause-value c =
    let q = c.in_ok-query.ensures in
    query_is c.args.run.now c.args.word.now c.args.version c.derive-keys.result c.in_ok-query.query c.derive-keys.ensures q.columns q.shape q.version
    (rw (c.name.ensures, c.name-2.ensures) at q.asks)
    (rw c.name.ensures at (q.lead c.name.result c.name-2.result refl))
    (rw c.name.ensures at (q.follow c.name.result c.name-2.result refl))

pub returns-clause-within : goal.returns-clause-within
returns-clause-within c step low =
    let q = c.in_ok-query.ensures in
    (query_range c.in_ok-query.query c.args.run.now.kept.shape c.args.version c.requires.kept.shape c.requires.version q.shape q.version q.lead_are q.follow_are, low)
