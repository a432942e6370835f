use Rattle.dory_member.proofs.CourseLaws.{search_whole, update_whole}
use Rattle.dory_member.proofs.law.whole_commands.Goals as goal

pub returns-clause-update : goal.returns-clause-update
returns-clause-update c = update_whole

pub returns-clause-search : goal.returns-clause-search
returns-clause-search c = search_whole
