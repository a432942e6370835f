use Rattle.dory_member.proofs.TextLaws.{lengths_text, posted_text, removed_text}
use Rattle.dory_member.proofs.text.outcome_text.Goals as goal

pub returns-in_ok-format-in-Posted : goal.returns-in_ok-format-in-Posted
returns-in_ok-format-in-Posted c = posted_text c.args.outcome.now c.in-Posted.doc c.in-Posted.number _ c.in-Posted.is c.in_ok-format-in-Posted.ensures.ok

pub returns-in_ok-format-in-Removed : goal.returns-in_ok-format-in-Removed
returns-in_ok-format-in-Removed c = removed_text c.args.outcome.now c.in-Removed.doc c.in-Removed.number _ c.in-Removed.is c.in_ok-format-in-Removed.ensures.ok

pub returns-in_ok-format-in-Lengths : goal.returns-in_ok-format-in-Lengths
returns-in_ok-format-in-Lengths c = lengths_text c.args.outcome.now c.in-Lengths.lead c.in-Lengths.follow c.in-Lengths.seen _ c.in-Lengths.is c.in_ok-format-in-Lengths.ensures.ok
