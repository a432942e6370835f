use Rattle.std.proofs.Common.{arith, take}
use Rattle.dory_verify.proofs.Beside.{answered_beside_lead, answered_beside_follow}
use Rattle.dory_verify.proofs.search.verify.Goals as goal

pub returns-clause-right_beside_lead : goal.returns-clause-right_beside_lead
returns-clause-right_beside_lead c shape history word mine other asked honest =
    rw (← c.probes-probes.ensures.value)
    (answered_beside_lead c.args.keys.now shape history c.args.query.now.version c.args.seen _ _ word (take c.probes-probes.result c.args.query.now.word_columns) mine other c.args.lead.now c.args.follow.now c.answered.result
    c.answered.ensures (λ i. omega (arith, c.type_inv.lead i)) (λ i. omega (arith, c.type_inv.follow i)) (rw (c.probes-probes.ensures.value) asked) honest)

pub returns-clause-right_beside_follow : goal.returns-clause-right_beside_follow
returns-clause-right_beside_follow c shape history word other mine asked honest =
    rw (← c.probes-probes.ensures.value)
    (answered_beside_follow c.args.keys.now shape history c.args.query.now.version c.args.seen _ _ word (take c.probes-probes.result c.args.query.now.word_columns) other mine c.args.lead.now c.args.follow.now c.answered.result
    c.answered.ensures (λ i. omega (arith, c.type_inv.lead i)) (λ i. omega (arith, c.type_inv.follow i)) (rw (c.probes-probes.ensures.value) asked) honest)
